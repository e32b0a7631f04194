use Rattle.std.proofs.Common.{◌∙◌, sym, ap}
use Rattle.polars_arrays_flat.specs.Row.{Bytes}
use Rattle.polars_compare_leaves.proofs.Strings.{against-at, against-within}
use Rattle.polars_compare_leaves.proofs.bytes.StringsAgainstTruthValues.value.Goals as goal

pub returns : goal.returns
returns g c =
    c.compare_constant.ensures
    ∙ ap (λ xs. g.E.ByteComparison.rows (Bytes xs) (Bytes c.args.self.now.right.now)) c.bytes.ensures
    ∙ sym
    (against-at (λ row. g.E.ByteComparison.rows row (Bytes c.args.self.now.right.now)) (g.L.ByteRows.strings c.args.self.now.left.now) c.args.i
    (against-within (λ row. g.E.ByteComparison.rows row (Bytes c.args.self.now.right.now)) (g.L.ByteRows.strings c.args.self.now.left.now) c.args.i c.requires))
