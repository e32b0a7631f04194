use Rattle.std.proofs.Common.{drop, sym, subst}
use Rattle.std.specs.Str.{IsUtf8}
use Rattle.std.proofs.lemmas.List.Elements.{All-take, All-drop}
use Rattle.polars_arrays_bytes.specs.OffsetStrings.{offset_strings}
use Rattle.polars_arrays_bytes.specs.Texts.{AreTexts}
use Rattle.polars_arrays_bytes.proofs.text.Utf8Array.slice.Goals as goal

pub invariant_of-self : goal.invariant_of-self
invariant_of-self g c =
    let strings = offset_strings g.O.Number.value c.self.inside.binary in
    subst AreTexts (sym c.slice.ensures.strings) (All-take IsUtf8 c.args.n (drop c.args.at strings) (All-drop IsUtf8 c.args.at strings c.self.invariant))
