use Rattle.std.proofs.Common.{[], refl, arith, below_more, subst}
use Rattle.std.proofs.lemmas.List.{length-map}
use Rattle.std.proofs.lemmas.List.Elements.{All-from_get_or}
use Rattle.std.specs.List.{All}
use Rattle.std.specs.Str.{IsUtf8}
use Rattle.polars_arrays_flat.specs.Row.{Bytes}
use Rattle.polars_arrays_views.specs.Parts.{view_strings}
use Rattle.polars_arrays_views.proofs.text_view.first_not_text.Goals as goal

pub is_text_row-requires-clause-whole : goal.is_text_row-requires-clause-whole
is_text_row-requires-clause-whole c whole =
    subst (All IsUtf8) c.buffers.ensures (c.hold_texts-whole.ensures whole)

pub loop-row-preserved : goal.loop-row-preserved
loop-row-preserved c =
    below_more _ _ c.loop-row.invariant (c.if-not-is_text_row.ensures.0 refl)

pub returns : goal.returns
returns c =
    let strings = view_strings c.args.array.now in
    let count = length-map strings Bytes in
    All-from_get_or IsUtf8 strings [] (λ k within. c.loop-row.invariant k (omega arith))
