use Rattle.std.proofs.Common.{◌∙◌, sym}
use Rattle.std.proofs.lemmas.Result.{MatchResult-weaker}
use Rattle.polars_tables_rows.specs.RowsLaws.{length-rows}
use Rattle.polars_tables_operations.proofs.Shown.{answers-are}
use Rattle.polars_tables_operations.proofs.comparing.compare_rows.Goals as goal

pub answered-requires-clause-left_bits : goal.answered-requires-clause-left_bits
answered-requires-clause-left_bits g c =
    let left = c.in_ok-left_mask.ensures in
    rw (left.mask, c.in_ok-bits.ensures.size ∙ length-rows _ _ left.bits) left.bits

pub answered-requires-clause-right_bits : goal.answered-requires-clause-right_bits
answered-requires-clause-right_bits g c =
    let left = c.in_ok-left_mask.ensures in
    let right = c.in_ok-right_mask.ensures in
    rw (right.mask, c.in_ok-bits.ensures.size ∙ length-rows _ _ left.bits ∙ sym c.requires) right.bits

pub returns : goal.returns
returns g c =
    let law = g.met.A.KernelArray in
    let left = c.in_ok-left_mask.ensures in
    let right = c.in_ok-right_mask.ensures in
    let told = rw (left.mask, right.mask) at c.answered.ensures in
    MatchResult-weaker c.answered.result told
    (λ answers e.
    e
    ∙ answers-are g.A.RowArray.value_row law.values_law c.args.comparison _ _ _ _ _ left.bits right.bits (law.stored_law c.args.left.now) (law.stored_law c.args.right.now) c.requires c.in_ok-bits.ensures)
    (λ e m. m)
