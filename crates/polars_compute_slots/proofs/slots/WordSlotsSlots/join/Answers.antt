use Rattle.std.proofs.Common.{◌≡◌, ◌∙◌, ◌<◌, ◌^◌, ◌||◌, ap, ap₂, sym, subst}
use Rattle.std.specs.Simd.Lanes.{zip2}
use Rattle.std.proofs.lemmas.Nat.{or_lt}
use Rattle.polars_arrays_words.specs.Bits.{first_of, is_bit}
use Rattle.polars_compute_slots.proofs.WordBits.{size_is, word-join}
use Rattle.polars_compute_slots.proofs.slots.WordSlotsSlots.join.Goals as goal

pub invariant_of-self : goal.invariant_of-self
invariant_of-self c =
    let same : c.other.inside.len ≡ c.self.inside.len = sym (size_is _ _ _ c.other.view_is) ∙ c.requires ∙ size_is _ _ _ c.self.view_is in
    (c.self.invariant.0, or_lt c.self.inside.len c.self.inside.word c.other.inside.word c.self.invariant.1 (subst (λ n. c.other.inside.word < 2 ^ n) same c.other.invariant.1))

pub returns : goal.returns
returns c =
    let same : c.self.inside.len ≡ c.other.inside.len = sym (size_is _ _ _ c.self.view_is) ∙ sym c.requires ∙ size_is _ _ _ c.other.view_is in
    word-join c.self.inside.word c.other.inside.word c.self.inside.len
    ∙ ap₂ (zip2 ◌||◌) c.self.view_is (ap (first_of (is_bit c.other.inside.word)) same ∙ c.other.view_is)
