-- Words whose bits are joined with those of others.
use Rattle.std.proofs.Common.{◌≡◌, ◌<◌, ◌≤◌, ◌+◌, ◌*◌, ◌/◌, ◌%◌, ◌∙◌, ◌||◌, ◌&&◌, ℕ, zero, suc, Bool, true, false, not, eqb, ltb, List, ◌∷◌, map, pos, bit_and, refl, sym, ap, ap₂, arith}
use Rattle.std.specs.Prelude.{ℤ, ◌+ℤ◌}
use Rattle.std.specs.List.{range_with_len}
use Rattle.std.proofs.lemmas.Bool.{cases_lt}
use Rattle.std.proofs.lemmas.Bool.Decides.{Decides-ltb, nat_tests}
use Rattle.std.proofs.lemmas.Simd.{zip2-map}
use Rattle.polars_arrays_words.proofs.OperatorBits.{is_bit_and}
use Rattle.polars_arrays_words.specs.Bits.{IsChanged, IsWord, bit_of, is_bit}
use Rattle.polars_compute_slots.proofs.States.{or-false, or-true}
use Rattle.polars_compute_slots.specs.State.{State, merged}
use Rattle.arrow_unique.specs.Memory.{AreJoined, Holds, state_in}
use mathlib.Core.Logic.{⊎_elim}

-- bit p of the first n bits
abbrev pub first_bit : ℕ → List ℕ → ℕ → Bool
first_bit n words p = ltb p n && bit_of words p

not-true : (b : Bool) → (b ≡ true → ⊥) → b ≡ false
not-true true h = absurd (h refl)
not-true false h = refl

pub first-in : (n : ℕ) (words : List ℕ) (p : ℕ) → p < n → first_bit n words p ≡ bit_of words p
first-in n words p lt = ap (λ b. b && bit_of words p) ((Decides-ltb p n).1 lt)

pub first-out : (n : ℕ) (words : List ℕ) (p : ℕ) → n ≤ p → first_bit n words p ≡ false
first-out n words p le = ap (λ b. b && bit_of words p) (not-true (ltb p n) (λ e. let lt = (Decides-ltb p n).0 e in omega arith))

-- ---- the last word

and-true : (b : Bool) → (b && true) ≡ b
and-true true = refl
and-true false = refl

and-false : (b : Bool) → (b && false) ≡ false
and-false true = refl
and-false false = refl

pub last-word : (n k : ℕ) (words : List ℕ) (word low : ℕ) → k ≡ n / 64 → IsWord (bit_of words) k word → ((i : ℕ) → i < n % 64 → is_bit low i ≡ true) → ((i : ℕ) → n % 64 ≤ i → i < 64 → is_bit low i ≡ false) → IsWord (first_bit n words) k (bit_and word low)
last-word n k words word low e is ones zeros =
    record {
      bits = λ i lt.
          is_bit_and word low i
          ∙ ⊎_elim
          (λ inside. ap₂ ◌&&◌ (is.bits i lt) (ones i inside) ∙ and-true (bit_of words (64 * k + i)) ∙ sym (first-in n words (64 * k + i) (omega arith)))
          (λ past. ap (λ b. is_bit word i && b) (zeros i past lt) ∙ and-false (is_bit word i) ∙ sym (first-out n words (64 * k + i) (omega arith)))
          (cases_lt i (n % 64));
    }

-- ---- all words

-- bits are joined with the first ones of others
abbrev pub joined : ℕ → List ℕ → ℕ → Bool → Bool
joined n others p b = b || first_bit n others p

joined-in : (n : ℕ) (others : List ℕ) (p : ℕ) (b : Bool) → p < n → joined n others p b ≡ (b || bit_of others p)
joined-in n others p b lt = ap (λ c. b || c) (first-in n others p lt)

joined-out : (n : ℕ) (others : List ℕ) (p : ℕ) (b : Bool) → n ≤ p → joined n others p b ≡ b
joined-out n others p b le = ap (λ c. b || c) (first-out n others p le) ∙ or-false b

-- words that are changed up to `inner`, and then up to `to`
both-changed : (h : ℕ → Bool → Bool) (old mid new : List ℕ) (inner to p : ℕ) → IsChanged h old mid 0 inner → IsChanged h mid new inner to → p < 64 * to → bit_of new p ≡ h p (bit_of old p)
both-changed h old mid new inner to p v w lt =
    ⊎_elim
    (λ early. w.below p early ∙ v.within p (omega arith) early)
    (λ late. w.within p late lt ∙ ap (h p) (v.above p late))
    (cases_lt p (64 * inner))

pub are_joined : (n inner to : ℕ) (others old mid new : List ℕ) → IsChanged (joined n others) old mid 0 inner → IsChanged (joined n others) mid new inner to → inner ≤ to → n ≤ 64 * to → AreJoined n others old new
are_joined n inner to others old mid new v w le all =
    record {
      seen = λ i lt. both-changed (joined n others) old mid new inner to i v w (omega arith) ∙ joined-in n others i (bit_of old i) lt;
      rest = λ p past.
          ⊎_elim
          (λ (inside : p < 64 * to). both-changed (joined n others) old mid new inner to p v w inside ∙ joined-out n others p (bit_of old p) past)
          (λ (behind : 64 * to ≤ p). w.above p behind ∙ v.above p (omega arith))
          (cases_lt p (64 * to));
    }

-- ---- states

-- a state of its two parts
abbrev made : List (ℤ × Bool) → Bool → State
made values has_null = record { values = values; has_null = has_null }

map_agree : {Y : Type 0} (g h : ℕ → Y) (a n : ℕ) → ((i : ℕ) → a ≤ i → i < a + n → g i ≡ h i) → map g (range_with_len a n) ≡ map h (range_with_len a n)
map_agree g h a zero same = refl
map_agree {Y} g h a (suc n) same =
    ap₂ (λ (y : Y) (ys : List Y). y ∷ ys) (same a (omega arith) (omega arith)) (map_agree g h (a + 1) n (λ i from to. same i (omega arith) (omega arith)))

holds-merged : (least : ℤ) (n : ℕ) (others old new : List ℕ) (flag other flag' : ℕ) → AreJoined n others old new → not (eqb flag' 0) ≡ (not (eqb flag 0) || not (eqb other 0)) → Holds least n old new flag' (merged (state_in least n old flag) (state_in least n others other))
holds-merged least n others old new flag other flag' j e =
    record {
      state =
          ap₂ made
          (map_agree (λ i. (least +ℤ pos i, bit_of new i)) (λ i. (least +ℤ pos i, bit_of old i || bit_of others i)) 0 n
          (λ i from to. ap (λ (b : Bool). (least +ℤ pos i, b)) (j.seen i (omega arith)))
          ∙ sym (zip2-map (λ (v w : ℤ × Bool). (v.0, v.1 || w.1)) (λ i. (least +ℤ pos i, bit_of old i)) (λ i. (least +ℤ pos i, bit_of others i)) (range_with_len 0 n)))
          e;
      rest = j.rest;
    }

-- the other state has seen a null
pub holds-null : (least : ℤ) (n : ℕ) (others old new : List ℕ) (flag other : ℕ) → AreJoined n others old new → (other ≡ 0 → ⊥) → Holds least n old new 1 (merged (state_in least n old flag) (state_in least n others other))
holds-null least n others old new flag other j some =
    holds-merged least n others old new flag other 1 j (sym (ap (λ b. not (eqb flag 0) || not b) (unequal other some) ∙ or-true (not (eqb flag 0))))
  where
    unequal : (k : ℕ) → (k ≡ 0 → ⊥) → eqb k 0 ≡ false
    unequal k h = grind (arith, nat_tests)

-- and has not
pub holds-no_null : (least : ℤ) (n : ℕ) (others old new : List ℕ) (flag other : ℕ) → AreJoined n others old new → other ≡ 0 → Holds least n old new flag (merged (state_in least n old flag) (state_in least n others other))
holds-no_null least n others old new flag other j none =
    holds-merged least n others old new flag other flag j (sym (ap (λ k. not (eqb flag 0) || not (eqb k 0)) none ∙ or-false (not (eqb flag 0))))
