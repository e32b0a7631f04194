use Rattle.std.proofs.Common.{◌∙◌, sym, take, ap}
use Rattle.polars_arrays_flat.specs.Row.{Bytes}
use Rattle.polars_compare_leaves.proofs.Strings.{against-at, against-within}
use Rattle.polars_compare_leaves.proofs.bytes.StringsOnBlockTruthValues.value.Goals as goal

pub returns : goal.returns
returns g c =
    let short = take c.args.self.now.m c.args.self.now.block.now in
    c.compare_block.ensures
    ∙ ap (λ xs. g.E.ByteComparison.rows (Bytes xs) (Bytes short)) c.bytes_on-n.ensures.string
    ∙ sym
    (against-at (λ row. g.E.ByteComparison.rows row (Bytes short)) (g.L.ByteRows.strings c.args.self.now.left.now) c.args.i
    (against-within (λ row. g.E.ByteComparison.rows row (Bytes short)) (g.L.ByteRows.strings c.args.self.now.left.now) c.args.i c.requires))
