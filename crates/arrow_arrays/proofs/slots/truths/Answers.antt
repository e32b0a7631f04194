use Rattle.std.proofs.Common.{◌+◌, length, ap, ◌∙◌}
use Rattle.std.proofs.lemmas.List.FromFn.{length-map-range_with_len}
use Rattle.arrow_parts.specs.ByteBits.{byte_bit}
use Rattle.arrow_arrays.proofs.SlotLemmas.{rows-bits}
use Rattle.arrow_arrays.proofs.slots.truths.Goals as goal

pub returns-in_err-array-clause-refused : goal.returns-in_err-array-clause-refused
returns-in_err-array-clause-refused c =
    absurd (c.in_err-array.ensures.made (rows-bits c.args.part.now (length c.in_ok-values.values) c.in_ok-validity.validity (ap length c.in_ok-values.ensures.bits ∙ length-map-range_with_len (λ i. byte_bit c.args.part.now.u8s.now (c.args.part.now.first_bit + i)) 0 c.args.part.now.rows) c.in_ok-validity.ensures.mask))
