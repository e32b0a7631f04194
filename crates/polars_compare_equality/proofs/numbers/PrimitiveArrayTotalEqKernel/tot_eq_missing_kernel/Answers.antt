use Rattle.std.proofs.Common.{true}
use Rattle.std.specs.Bool.{⊤}
use Rattle.std.proofs.lemmas.Result.{MatchResult-weaker}
use Rattle.polars_arrays_flat.specs.SlotLaws.{number_slots-present}
use Rattle.polars_compare_equality.specs.SlotsLaws.{number_slots-as_long}
use Rattle.polars_compare_equality.proofs.Missing.{missing-from-raw}
use Rattle.polars_compare_equality.proofs.Raw.{equal-values}
use Rattle.polars_compare_equality.proofs.numbers.PrimitiveArrayTotalEqKernel.tot_eq_missing_kernel.Goals as goal

pub returns : goal.returns
returns g c =
    MatchResult-weaker c.join_numbers.result c.join_numbers.ensures
    (λ bits j.
    let joined = rw (c.in_ok-left_mask.ensures.mask, c.in_ok-right_mask.ensures.mask) at j in
    let one_length = number_slots-as_long g.T.Number.value _ _ c.requires.comparable in
    missing-from-raw ⊤ ⊤ true _ _ _ _ _ bits c.in_ok-left_mask.ensures.bits c.in_ok-right_mask.ensures.bits
    one_length
    (λ i within is_null. absurd (number_slots-present g.T.Number.value _ i within is_null))
    (λ i within is_null. absurd (number_slots-present g.T.Number.value _ i within is_null))
    (equal-values _ _ _ _ one_length)
    joined)
    (λ error m. m)
