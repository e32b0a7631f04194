use Rattle.std.proofs.Common.{sym}
use Rattle.polars_compare_leaves.proofs.Strings.{pairs-length}
use Rattle.polars_compare_leaves.proofs.bytes.StringPairsTruthValues.len.Goals as goal

pub returns : goal.returns
returns g c = sym (pairs-length g.E.ByteComparison.rows c.args.self.now.a c.args.self.now.b c.args.self.now.n (g.L.ByteRows.strings c.args.self.now.left.now) (g.R.ByteRows.strings c.args.self.now.right.now) c.args.self.now.left_in c.args.self.now.right_in)
