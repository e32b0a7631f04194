use Rattle.std.proofs.Common.{◌+◌, ◌-◌, ◌++◌, ℕ, List, Bool, arith, sym, ap, ◌∙◌, subst}
use Rattle.std.proofs.lemmas.List.{with_items_is}
use Rattle.polars_arrays_words.specs.Bits.{first_of, window}
use Rattle.polars_arrays_words.specs.Packing.{AreAppended}
use Rattle.polars_arrays_words.proofs.Firsts.{length-first}
use Rattle.polars_arrays_bits.proofs.Drafts.{draft-appended, draft_of}
use Rattle.polars_arrays_bits.proofs.builder.BitmapBuilder.extend_source.Goals as goal

pub returns : goal.returns
returns g c =
    let inside = c.self.inside in
    let n = c.args.n in
    let bits : List Bool = first_of (g.S.BitSource.bit c.args.source.now) n in
    let long = length-first (g.S.BitSource.bit c.args.source.now) n in
    let new = c.append_bits.new.words in
    ap (λ ws. draft_of (window 0 (inside.len + n) ws) (inside.room - n)) (with_items_is inside.words new (omega arith))
    ∙ draft-appended inside.words.items new inside.len n inside.room bits c.args.self.now (sym long) c.self.view_is
    (subst (λ (m : ℕ). AreAppended inside.words.items new inside.len bits m) (sym long) (subst (λ (ws : List ℕ). AreAppended ws new inside.len bits n) c.as_mut_slice.ensures.value c.append_bits.ensures))
    ∙ ap (λ (m : ℕ). draft_of (c.args.self.now.bits ++ bits) (c.args.self.now.room - m)) long
