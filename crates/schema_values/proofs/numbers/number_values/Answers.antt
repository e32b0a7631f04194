use Rattle.std.proofs.Common.{inl, inr, refl, subst}
use Rattle.polars_arrays_bits.specs.Errors.{IsMemory}
use Rattle.polars_arrays_bytes.specs.OffsetStrings.{offset_strings}
use Rattle.schema_values.specs.Numbers.{IsNumberFault, TellsDecimals, TellsNumbers}
use Rattle.schema_values.specs.Told.{told_of}
use Rattle.schema_values.proofs.NumberLemmas.{match_weaker}
use Rattle.schema_values.proofs.numbers.number_values.Goals as goal

pub returns-in-Ok : goal.returns-in-Ok
returns-in-Ok c =
    let xs = offset_strings (λ x. x) c.args.cells.now in
    match_weaker (λ values. TellsDecimals xs (told_of values)) (λ values. TellsNumbers xs (told_of values)) IsMemory c.exact_values.result (λ values told. inl told) c.exact_values.ensures

pub returns-in-Err-WideExponent : goal.returns-in-Err-WideExponent
returns-in-Err-WideExponent c =
    let xs = offset_strings (λ x. x) c.args.cells.now in
    inr (record { some = subst (IsNumberFault xs) c.in-Err-WideExponent.field-0-is c.in-Err-WideExponent.ensures; nothing = record { distinct = refl; least = refl; greatest = refl } })
