use Rattle.std.proofs.Common.{◌+◌, ◌-◌, ℕ, List, arith, ap, ◌∙◌, subst}
use Rattle.std.proofs.lemmas.List.{with_items_is}
use Rattle.polars_arrays_words.specs.Bits.{window, IsWritten}
use Rattle.polars_arrays_bits.proofs.Drafts.{draft_of, draft-extended}
use Rattle.polars_arrays_bits.proofs.builder.BitmapBuilder.extend_constant.Goals as goal

pub returns : goal.returns
returns c =
    let inside = c.self.inside in
    ap (λ ws. draft_of (window 0 (inside.len + c.args.n) ws) (inside.room - c.args.n)) (with_items_is inside.words c.fill_bits.new.words (omega arith))
    ∙ draft-extended inside.words.items c.fill_bits.new.words inside.len c.args.n inside.room c.args.value c.args.self.now c.self.view_is
    (subst (λ (ws : List ℕ). IsWritten ws c.fill_bits.new.words inside.len (inside.len + c.args.n) c.args.value) c.as_mut_slice.ensures.value c.fill_bits.ensures)
