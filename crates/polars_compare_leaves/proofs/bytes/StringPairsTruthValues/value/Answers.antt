use Rattle.std.proofs.Common.{◌∙◌, sym, ap₂, arith}
use Rattle.polars_arrays_flat.specs.Row.{Bytes}
use Rattle.polars_compare_leaves.proofs.Strings.{pair-within, pairs-at}
use Rattle.polars_compare_leaves.proofs.bytes.StringPairsTruthValues.value.Goals as goal

pub overflow_add-self : goal.overflow_add-self
overflow_add-self g c = let within = pair-within g.E.ByteComparison.rows c.args.self.now.a c.args.self.now.b c.args.self.now.n c.args.i (g.L.ByteRows.strings c.args.self.now.left.now) (g.R.ByteRows.strings c.args.self.now.right.now) c.args.self.now.left_in c.args.self.now.right_in c.requires in omega (arith, within, c.args.self.now.left_fits)

pub bytes_on-n-requires : goal.bytes_on-n-requires
bytes_on-n-requires g c = let within = pair-within g.E.ByteComparison.rows c.args.self.now.a c.args.self.now.b c.args.self.now.n c.args.i (g.L.ByteRows.strings c.args.self.now.left.now) (g.R.ByteRows.strings c.args.self.now.right.now) c.args.self.now.left_in c.args.self.now.right_in c.requires in omega (arith, within, c.args.self.now.left_in)

pub overflow_add-self-2 : goal.overflow_add-self-2
overflow_add-self-2 g c = let within = pair-within g.E.ByteComparison.rows c.args.self.now.a c.args.self.now.b c.args.self.now.n c.args.i (g.L.ByteRows.strings c.args.self.now.left.now) (g.R.ByteRows.strings c.args.self.now.right.now) c.args.self.now.left_in c.args.self.now.right_in c.requires in omega (arith, within, c.args.self.now.right_fits)

pub bytes_on-m-requires : goal.bytes_on-m-requires
bytes_on-m-requires g c = let within = pair-within g.E.ByteComparison.rows c.args.self.now.a c.args.self.now.b c.args.self.now.n c.args.i (g.L.ByteRows.strings c.args.self.now.left.now) (g.R.ByteRows.strings c.args.self.now.right.now) c.args.self.now.left_in c.args.self.now.right_in c.requires in omega (arith, within, c.args.self.now.right_in)

pub returns : goal.returns
returns g c =
    c.compare_beginnings.ensures
    ∙ ap₂ (λ xs ys. g.E.ByteComparison.rows (Bytes xs) (Bytes ys)) c.bytes_on-n.ensures.string c.bytes_on-m.ensures.string
    ∙ sym
    (pairs-at g.E.ByteComparison.rows c.args.self.now.a c.args.self.now.b c.args.self.now.n c.args.i (g.L.ByteRows.strings c.args.self.now.left.now)
    (g.R.ByteRows.strings c.args.self.now.right.now) (pair-within g.E.ByteComparison.rows c.args.self.now.a c.args.self.now.b c.args.self.now.n c.args.i (g.L.ByteRows.strings c.args.self.now.left.now) (g.R.ByteRows.strings c.args.self.now.right.now) c.args.self.now.left_in c.args.self.now.right_in c.requires) c.args.self.now.left_in c.args.self.now.right_in)
