use Rattle.std.proofs.Common.{◌∙◌, sym, arith}
use Rattle.polars_arrays_views.specs.Parts.{view_strings}
use Rattle.polars_compare_leaves.specs.Pairs.{compared_pair}
use Rattle.polars_compare_leaves.proofs.Tested.{pair-within, pair-at}
use Rattle.polars_compare_leaves.proofs.view_windows.ViewPairsCountedValues.value.Goals as goal

pub overflow_add-self : goal.overflow_add-self
overflow_add-self g c = let within = pair-within (compared_pair g.E.ViewComparison.rows (view_strings c.args.self.now.left.now) (view_strings c.args.self.now.right.now) c.args.self.now.a c.args.self.now.b) c.args.self.now.n c.args.i c.requires in omega (arith, within, c.args.self.now.left_fits)

pub overflow_add-self-2 : goal.overflow_add-self-2
overflow_add-self-2 g c = let within = pair-within (compared_pair g.E.ViewComparison.rows (view_strings c.args.self.now.left.now) (view_strings c.args.self.now.right.now) c.args.self.now.a c.args.self.now.b) c.args.self.now.n c.args.i c.requires in omega (arith, within, c.args.self.now.right_fits)

pub compare-requires-clause-left : goal.compare-requires-clause-left
compare-requires-clause-left g c = let within = pair-within (compared_pair g.E.ViewComparison.rows (view_strings c.args.self.now.left.now) (view_strings c.args.self.now.right.now) c.args.self.now.a c.args.self.now.b) c.args.self.now.n c.args.i c.requires in omega (arith, within, c.args.self.now.left_in)

pub compare-requires-clause-right : goal.compare-requires-clause-right
compare-requires-clause-right g c = let within = pair-within (compared_pair g.E.ViewComparison.rows (view_strings c.args.self.now.left.now) (view_strings c.args.self.now.right.now) c.args.self.now.a c.args.self.now.b) c.args.self.now.n c.args.i c.requires in omega (arith, within, c.args.self.now.right_in)

pub returns-clause-told : goal.returns-clause-told
returns-clause-told g c = c.compare.ensures.told ∙ sym (pair-at (compared_pair g.E.ViewComparison.rows (view_strings c.args.self.now.left.now) (view_strings c.args.self.now.right.now) c.args.self.now.a c.args.self.now.b) c.args.self.now.n c.args.i (pair-within (compared_pair g.E.ViewComparison.rows (view_strings c.args.self.now.left.now) (view_strings c.args.self.now.right.now) c.args.self.now.a c.args.self.now.b) c.args.self.now.n c.args.i c.requires))
