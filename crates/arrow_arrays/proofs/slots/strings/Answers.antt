use Rattle.std.proofs.Common.{◌≡◌, ℤ, rules}
use Rattle.std.specs.Prelude.{IfErr}
use Rattle.polars_arrays_bytes.specs.OffsetStrings.{OffsetStrings}
use Rattle.arrow_parts.specs.Lent.{places_from}
use Rattle.arrow_parts.specs.declared.refused.Refused.TheVariants.{Parts}
use Rattle.arrow_arrays.proofs.Honest.{refused-parts}
use Rattle.arrow_arrays.proofs.SlotLemmas.{AreCopied, strings-bounded, strings-good}
use Rattle.arrow_arrays.specs.Good.{GoodStrings}
use Rattle.arrow_arrays.proofs.slots.strings.Goals as goal

pub returns-clause-good : goal.returns-clause-good
returns-clause-good g c =
    let all = places_from c.args.part.now.base g.O.Number.value c.args.offsets.now in
    let a : OffsetStrings ℤ = record { offsets = c.in_ok-ends.ends.items; values = c.in_ok-bytes.bytes.items; validity = c.in_ok-validity.validity } in
    let copied : AreCopied c.args.part.now all a = record { present = c.in_ok-validity.ensures.held; mask = c.in_ok-validity.ensures.mask; count = c.in_ok-ends.ensures.count; ends = c.in_ok-ends.ensures.ends; stored = c.in_ok-bytes.ensures.copy } in
    strings-good c.args.part.now all a copied c.in_ok-array.ensures.made.0

pub returns-in_err-array-clause-refused : goal.returns-in_err-array-clause-refused
returns-in_err-array-clause-refused g c =
    let all = places_from c.args.part.now.base g.O.Number.value c.args.offsets.now in
    let a : OffsetStrings ℤ = record { offsets = c.in_ok-ends.ends.items; values = c.in_ok-bytes.bytes.items; validity = c.in_ok-validity.validity } in
    let copied : AreCopied c.args.part.now all a = record { present = c.in_ok-validity.ensures.held; mask = c.in_ok-validity.ensures.mask; count = c.in_ok-ends.ensures.count; ends = c.in_ok-ends.ensures.ends; stored = c.in_ok-bytes.ensures.copy } in
    let parts : IfErr c.from_residual-in_err-array.result (λ r. r ≡ Parts) = search rules in
    refused-parts (GoodStrings all c.args.part.now) c.from_residual-in_err-array.result parts (λ good. c.in_err-array.ensures.made (strings-bounded c.args.part.now all a copied good))
