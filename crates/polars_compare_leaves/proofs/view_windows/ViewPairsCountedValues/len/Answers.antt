use Rattle.std.proofs.Common.{sym}
use Rattle.polars_arrays_views.specs.Parts.{view_strings}
use Rattle.polars_compare_leaves.specs.Pairs.{compared_pair}
use Rattle.polars_compare_leaves.proofs.Tested.{length-pairs}
use Rattle.polars_compare_leaves.proofs.view_windows.ViewPairsCountedValues.len.Goals as goal

pub returns : goal.returns
returns g c = sym (length-pairs (compared_pair g.E.ViewComparison.rows (view_strings c.args.self.now.left.now) (view_strings c.args.self.now.right.now) c.args.self.now.a c.args.self.now.b) c.args.self.now.n)
