use Rattle.std.proofs.Common.{[], below_more, sym, subst, arith}
use Rattle.std.specs.Str.{IsUtf8}
use Rattle.std.proofs.lemmas.List.Elements.{All-from_get_or}
use Rattle.polars_arrays_bytes.specs.OffsetStrings.{offset_strings}
use Rattle.polars_arrays_bytes.proofs.text.first_bad_text.Goals as goal

pub returns-then-show_texts : goal.returns-then-show_texts
returns-then-show_texts g c = rw (sym c.offsets.ensures.offsets, sym c.values.ensures) (c.show_texts.ensures c.if-show_texts.true)

pub loop-row-preserved : goal.loop-row-preserved
loop-row-preserved g c =
    below_more _ _ c.loop-row.invariant (subst IsUtf8 c.bytes.ensures (c.is_text.ensures.0 c.if-not-is_text.false))

pub returns : goal.returns
returns g c =
    All-from_get_or IsUtf8 (offset_strings g.O.Number.value c.args.binary.now) [] (λ k below. c.loop-row.invariant k (omega (arith, below, c.loop-row-test.false, c.count-row-end.ensures)))
