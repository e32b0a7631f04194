-- What is known of lists stays known after the first of them.
use Rattle.std.proofs.Common.{◌≡◌, ◌+◌, ◌-◌, ◌/◌, ◌^◌, ◌≤◌, ℕ, eqb, ap, ◌∙◌, arith}
use Rattle.polars_arrays_nested.specs.declared.list.ListArray.{ListArray}
use Rattle.polars_arrays_words.specs.Bits.{is_bit}
use Rattle.polars_arrays_words.proofs.SingleBits.{bit_at-shr}
use Rattle.polars_compare_nested.specs.Known.{AreKnown}
use Rattle.polars_compare_nested.specs.declared.runs.Matches.{Matches}

-- the bits of a word that was moved
pub moved_bit : (word n i : ℕ) → is_bit (word / 2 ^ n) i ≡ is_bit word (n + i)
moved_bit word n i = ap (λ b. eqb b 1) (bit_at-shr word n i)

-- nothing is known
pub none_known : (l : ListArray) (a : ℕ) (r : ListArray) (b n : ℕ) (matches : Matches) → matches.len ≡ 0 → AreKnown l a r b n matches
none_known l a r b n matches none = record {
  few = omega (arith, none);
  within = omega (arith, none);
  tell = λ i low. absurd (omega (arith, none, low));
}

-- the first k lists are left out
pub known_behind : (l : ListArray) (a : ℕ) (r : ListArray) (b n k : ℕ) (old new : Matches) → AreKnown l a r b n old → k ≤ old.len → new.len ≡ old.len - k → ((i : ℕ) → is_bit new.word i ≡ is_bit old.word (k + i)) → AreKnown l (a + k) r (b + k) (n - k) new
known_behind l a r b n k old new known within long bits = record {
  few = omega (arith, long, known.few);
  within = omega (arith, long, known.within, within);
  tell = λ i low.
      let here : a + (k + i) ≡ a + k + i = omega arith in
      let there : b + (k + i) ≡ b + k + i = omega arith in
      bits i ∙ (rw (here, there) at (known.tell (k + i) (omega (arith, low, long, within))));
}

-- the same known lists, counted otherwise
pub known_at : (l : ListArray) (a a' : ℕ) (r : ListArray) (b b' n n' : ℕ) (matches : Matches) → a ≡ a' → b ≡ b' → n ≡ n' → AreKnown l a r b n matches → AreKnown l a' r b' n' matches
known_at l a a' r b b' n n' matches here there left known = rw (here, there, left) at known
