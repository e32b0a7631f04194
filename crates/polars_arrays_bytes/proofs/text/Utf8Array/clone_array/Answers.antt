use Rattle.std.proofs.Common.{sym, subst}
use Rattle.polars_arrays_bytes.specs.OffsetStrings.{OffsetStrings, offset_strings}
use Rattle.polars_arrays_bytes.specs.Texts.{AreTexts}
use Rattle.polars_arrays_bytes.proofs.text.Utf8Array.clone_array.Goals as goal

pub invariant_of-result : goal.invariant_of-result
invariant_of-result g c =
    subst (λ (a : OffsetStrings _). AreTexts (offset_strings g.O.Number.value a)) (sym c.in_ok-binary.ensures) c.self.invariant
