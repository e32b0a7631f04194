use Rattle.std.proofs.Common.{[], ap, arith, below_more, refl, sym, subst, ◌∙◌}
use Rattle.std.specs.Prelude.{ℕ}
use Rattle.std.specs.Str.{IsUtf8}
use Rattle.std.proofs.lemmas.List.{get_or-map, length-map}
use Rattle.std.proofs.lemmas.List.Elements.{All-from_get_or}
use Rattle.polars_arrays_bits.specs.Buffer.{Elements}
use Rattle.polars_arrays_views.specs.Parts.{contents}
use Rattle.polars_arrays_views.proofs.text_view.hold_texts.Goals as goal

pub loop-i-preserved : goal.loop-i-preserved
loop-i-preserved c =
    let buffer = get_or-map (λ (b : Elements ℕ). b.items) c.args.buffers.now c.loop-i.i c.index-buffers-i.result [] c.loop-i-test.true in
    let read = ap (λ (b : Elements ℕ). b.items) c.index-buffers-i.is in
    below_more _ _ c.loop-i.invariant (subst IsUtf8 (c.as_slice-bytes.ensures ∙ read ∙ sym buffer) (c.if-not-is_text.ensures.0 refl))

pub returns : goal.returns
returns c _ =
    let count = length-map c.args.buffers.now (λ (b : Elements ℕ). b.items) in
    All-from_get_or IsUtf8 (contents c.args.buffers.now) [] (λ k within. c.loop-i.invariant k (omega (arith, within, count, c.loop-i-test.false)))
