use Rattle.std.proofs.Common.{[], subst}
use Rattle.std.specs.Str.{IsUtf8}
use Rattle.std.proofs.lemmas.List.Elements.{All-get_or}
use Rattle.polars_arrays_bytes.specs.OffsetStrings.{OffsetStrings, offset_strings}
use Rattle.polars_arrays_bytes.specs.Texts.{AreTexts, IsFirstOther}
use Rattle.polars_arrays_bytes.proofs.text.Utf8Array.try_new.Goals as goal

pub returns-in-Some-clause-made : goal.returns-in-Some-clause-made
returns-in-Some-clause-made g c =
    let first = subst (λ (a : OffsetStrings _). IsFirstOther (offset_strings g.O.Number.value a) c.in-Some.row) c.in_ok-binary.ensures.made.1 c.in-Some.ensures in
    λ good. first.other (All-get_or IsUtf8 _ c.in-Some.row [] first.within good.texts)

pub returns-in-None-clause-made : goal.returns-in-None-clause-made
returns-in-None-clause-made g c =
    let made = c.in_ok-binary.ensures.made in
    let texts = subst (λ (a : OffsetStrings _). AreTexts (offset_strings g.O.Number.value a)) made.1 c.in-None.ensures in
    (record { bounded = made.0; texts = texts }, made.1)
