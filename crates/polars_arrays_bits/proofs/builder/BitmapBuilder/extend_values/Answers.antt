use Rattle.std.proofs.Common.{◌+◌, ◌-◌, ℕ, List, Bool, length, arith, ap, ◌∙◌, subst}
use Rattle.std.proofs.lemmas.List.{with_items_is}
use Rattle.polars_arrays_words.specs.Bits.{window}
use Rattle.polars_arrays_words.specs.Packing.{AreAppended}
use Rattle.polars_arrays_bits.proofs.Drafts.{draft-appended, draft_of}
use Rattle.polars_arrays_bits.proofs.builder.BitmapBuilder.extend_values.Goals as goal

pub returns : goal.returns
returns g c =
    let inside = c.self.inside in
    let values : List Bool = g.V.TruthValues.values c.args.values.now in
    let count = c.len-count.result in
    let new = c.append_values.new.words in
    ap (λ ws. draft_of (window 0 (inside.len + count) ws) (inside.room - count)) (with_items_is inside.words new (omega arith))
    ∙ draft-appended inside.words.items new inside.len count inside.room values c.args.self.now c.len-count.ensures c.self.view_is
    (subst (λ (ws : List ℕ). AreAppended ws new inside.len values (length values)) c.as_mut_slice.ensures.value c.append_values.ensures)
