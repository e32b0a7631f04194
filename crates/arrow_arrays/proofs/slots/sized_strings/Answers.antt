use Rattle.std.proofs.Common.{◌≡◌, length, rules}
use Rattle.std.specs.Prelude.{IfErr}
use Rattle.arrow_parts.specs.declared.refused.Refused.TheVariants.{Parts}
use Rattle.arrow_arrays.proofs.Honest.{refused-parts}
use Rattle.arrow_arrays.proofs.SlotLemmas.{sized-bounded}
use Rattle.arrow_arrays.specs.Good.{AreSized}
use Rattle.arrow_arrays.proofs.slots.sized_strings.Goals as goal

pub returns-in_err-array-clause-refused : goal.returns-in_err-array-clause-refused
returns-in_err-array-clause-refused c =
    let parts : IfErr c.from_residual-in_err-array.result (λ r. r ≡ Parts) = search rules in
    refused-parts (AreSized c.args.part.now (length c.args.part.now.u8s.now)) c.from_residual-in_err-array.result parts (λ good. c.in_err-array.ensures.made (sized-bounded c.args.part.now c.in_ok-values.values.items c.in_ok-validity.validity c.in_ok-values.ensures.copy c.in_ok-validity.ensures.mask good))
