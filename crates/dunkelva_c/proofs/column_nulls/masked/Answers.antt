use Rattle.std.proofs.Common.{◌∙◌, length, map, not, sym, ap}
use Rattle.dunkelva_c.proofs.Lent.{nulls_long}
use Rattle.dunkelva_c.proofs.column_nulls.masked.Goals as goal

pub returns-in-Some-clause-long : goal.returns-in-Some-clause-long
returns-in-Some-clause-long c =
    let p = c.args.part.now in
    ap length (c.in_ok-bits-in-Some.ensures ∙ ap (map not) c.from_bitmap.ensures)
    ∙ nulls_long p.first_bit p.rows p.present.now c.in-Some.bits (sym c.in-Some.is ∙ c.in_ok-validity.ensures.bits)
