use Rattle.std.proofs.Common.{◌∙◌}
use Rattle.std.proofs.lemmas.Result.{MatchResult-weaker}
use Rattle.polars_tables_rows.specs.RowsLaws.{length-rows}
use Rattle.polars_tables_operations.proofs.Shown.{scalar_answers-are}
use Rattle.polars_tables_operations.proofs.comparing.compare_scalar.Goals as goal

pub answered-requires-clause-left_bits : goal.answered-requires-clause-left_bits
answered-requires-clause-left_bits g c =
    let mask = c.in_ok-mask.ensures in
    rw (mask.mask, c.in_ok-bits.ensures.size ∙ length-rows _ _ mask.bits) mask.bits

pub returns : goal.returns
returns g c =
    let law = g.met.A.KernelArray in
    let mask = c.in_ok-mask.ensures in
    let told = rw (mask.mask, c.all-every.ensures) at c.answered.ensures in
    MatchResult-weaker c.answered.result told
    (λ answers e.
    e
    ∙ scalar_answers-are g.A.RowArray.value_row law.values_law c.args.comparison _ _ c.args.scalar.now _ mask.bits (law.stored_law c.args.rows.now) c.in_ok-bits.ensures)
    (λ e m. m)
