-- Numbers that are seen, listed from one 1 of a word to the next.
use Rattle.std.proofs.Common.{◌≡◌, ◌≢◌, ◌<◌, ◌≤◌, ◌+◌, ◌-◌, ◌*◌, ◌^◌, ◌∙◌, ◌++◌, ℕ, zero, suc, true, false, cond, List, [], ◌∷◌, length, drop, map, get_or, pos, bit_and, refl, sym, ap, ap₂, arith}
use Rattle.std.specs.Prelude.{ℤ, ◌+ℤ◌, slice_set}
use Rattle.std.specs.Int.{w64, trailing_zeros}
use Rattle.std.specs.Int.Count.{trailing_of_zero}
use Rattle.std.proofs.lemmas.Bool.{cases_eq, cases_lt}
use Rattle.std.proofs.lemmas.List.{get_or_past}
use Rattle.std.proofs.lemmas.Nat.{trailing_le}
use Rattle.polars_arrays_words.proofs.WrittenBits.{zeros_bit}
use Rattle.polars_arrays_words.specs.Bits.{IsWord, is_bit}
use Rattle.polars_compute_slots.proofs.Sets.{members, members-more}
use Rattle.polars_compute_slots.specs.State.{set_of}
use Rattle.arrow_unique.proofs.Joined.{first-in, first-out, first_bit}
use Rattle.arrow_unique.proofs.Listed.{length-more, length-slots, listed-more, members-le, set-is, slot-bit, slots}
use Rattle.arrow_unique.proofs.Lowest.{below-unset, cleared-here, cleared-others, lowest-in, lowest-set}
use Rattle.arrow_unique.specs.Memory.{low_word, state_in}
use mathlib.Core.Logic.{⊎_elim}

apart : true ≡ false → ⊥
apart e = cc

-- ---- the next 1 of a word

no-ones : trailing_zeros w64 0 ≡ 64
no-ones = trailing_of_zero 64

most : (x : ℕ) → trailing_zeros w64 x ≤ 64
most x = trailing_le 64 x

unset : (x i : ℕ) → x < 2 ^ 64 → i < trailing_zeros w64 x → is_bit x i ≡ false
unset x i fits lt =
    ⊎_elim
    (λ (none : x ≡ 0). ap (λ y. is_bit y i) none ∙ zeros_bit i)
    (λ (some : x ≡ 0 → ⊥). below-unset x (omega (arith, some)) fits i lt)
    (cases_eq x 0)

next-above : (x : ℕ) → 0 < x → x < 2 ^ 64 → bit_and x (x - 1) < 2 ^ 64 → trailing_zeros w64 x < trailing_zeros w64 (bit_and x (x - 1))
next-above x some fits small =
    let y = bit_and x (x - 1) in
    ⊎_elim
    (λ (none : y ≡ 0). omega (arith, lowest-in x some fits, ap (trailing_zeros w64) none ∙ no-ones))
    (λ (more : y ≡ 0 → ⊥).
    let set : is_bit y (trailing_zeros w64 y) ≡ true = lowest-set y (omega (arith, more)) small in
    ⊎_elim
    (λ (above : trailing_zeros w64 x < trailing_zeros w64 y). above)
    (λ (le : trailing_zeros w64 y ≤ trailing_zeros w64 x).
    ⊎_elim
    (λ (same : trailing_zeros w64 y ≡ trailing_zeros w64 x). absurd (apart (sym set ∙ ap (is_bit y) same ∙ cleared-here x some fits)))
    (λ (other : trailing_zeros w64 y ≡ trailing_zeros w64 x → ⊥).
    absurd (apart (sym set ∙ cleared-others x some fits (trailing_zeros w64 y) other ∙ below-unset x some fits (trailing_zeros w64 y) (omega (arith, le, other)))))
    (cases_eq (trailing_zeros w64 y) (trailing_zeros w64 x)))
    (cases_lt (trailing_zeros w64 x) (trailing_zeros w64 y)))
    (cases_eq y 0)

-- ---- what is listed

append-none : (xs : List ℤ) → xs ++ [] ≡ xs
append-none [] = refl
append-none (x ∷ xs) = ap (λ rest. x ∷ rest) (append-none xs)

-- of n numbers from `least` on the first p are listed, of which m were seen, and then come the old
-- elements
pub record IsListed (least : ℤ) (n : ℕ) (words old : List ℕ) (p m : ℕ) (out : List ℕ) : Type 0 where
  pub place : m ≡ length (members least (slots least n words) p)
  pub listed : out ≡ map low_word (members least (slots least n words) p) ++ drop m old

-- from its lowest 1 on `rest` has the bits of word k
pub record IsLeft (least : ℤ) (n : ℕ) (words : List ℕ) (k rest : ℕ) : Type 0 where
  pub bits : (i : ℕ) → trailing_zeros w64 rest ≤ i → i < 64 → is_bit rest i ≡ get_or (slots least n words) (64 * k + i) false

module _ (least : ℤ) (n : ℕ) (words : List ℕ) where
  slot-past : (p : ℕ) → n ≤ p → get_or (slots least n words) p false ≡ false
  slot-past p le = get_or_past (slots least n words) p false (omega (arith, length-slots least n words))

  slot-first : (p : ℕ) → first_bit n words p ≡ get_or (slots least n words) p false
  slot-first p =
      ⊎_elim
      (λ (lt : p < n). first-in n words p lt ∙ sym (slot-bit least n words p lt))
      (λ (le : n ≤ p). first-out n words p le ∙ sym (slot-past p le))
      (cases_lt p n)

  -- slots that are not set have no members
  skip : (a d : ℕ) → ((i : ℕ) → a ≤ i → i < a + d → get_or (slots least n words) i false ≡ false) → members least (slots least n words) (a + d) ≡ members least (slots least n words) a
  skip a zero none = let same : a + 0 ≡ a = omega arith in ap (members least (slots least n words)) same
  skip a (suc d) none =
      let next : a + suc d ≡ a + d + 1 = omega arith in
      ap (members least (slots least n words)) next
      ∙ members-more least (slots least n words) (a + d)
      ∙ ap (λ b. members least (slots least n words) (a + d) ++ cond b ((least +ℤ pos (a + d)) ∷ []) []) (none (a + d) (omega arith) (omega arith))
      ∙ append-none (members least (slots least n words) (a + d))
      ∙ skip a d (λ i from to. none i from (omega arith))

  skip-to : (a b : ℕ) → a ≤ b → ((i : ℕ) → a ≤ i → i < b → get_or (slots least n words) i false ≡ false) → members least (slots least n words) b ≡ members least (slots least n words) a
  skip-to a b le none =
      let there : a + (b - a) ≡ b = omega arith in
      ap (members least (slots least n words)) (sym there) ∙ skip a (b - a) (λ i from to. none i from (omega arith))

  moved : (old : List ℕ) (p q m : ℕ) (out : List ℕ) → members least (slots least n words) q ≡ members least (slots least n words) p → IsListed least n words old p m out → IsListed least n words old q m out
  moved old p q m out same h =
      record {
        place = h.place ∙ ap length (sym same);
        listed = h.listed ∙ ap (λ (vs : List ℤ). map low_word vs ++ drop m old) (sym same);
      }

  -- before word k
  pub listed-word : (old : List ℕ) (k word m : ℕ) (out : List ℕ) → word < 2 ^ 64 → IsWord (first_bit n words) k word → IsListed least n words old (64 * k) m out → IsListed least n words old (64 * k + trailing_zeros w64 word) m out
  listed-word old k word m out fits is h =
      moved old (64 * k) (64 * k + trailing_zeros w64 word) m out
      (skip (64 * k) (trailing_zeros w64 word)
      (λ i from to.
      let at : 64 * k + (i - 64 * k) ≡ i = omega arith in
      sym (ap (λ p. get_or (slots least n words) p false) at)
      ∙ sym (slot-first (64 * k + (i - 64 * k)))
      ∙ sym (is.bits (i - 64 * k) (omega (arith, most word)))
      ∙ unset word (i - 64 * k) fits (omega arith)))
      h

  pub left-word : (k word : ℕ) → IsWord (first_bit n words) k word → IsLeft least n words k word
  left-word k word is = record { bits = λ i from lt. is.bits i lt ∙ slot-first (64 * k + i) }

  -- at its lowest 1
  module _ (k rest : ℕ) (some : 0 < rest) (fits : rest < 2 ^ 64) (left : IsLeft least n words k rest) where
    pub slot-here : get_or (slots least n words) (64 * k + trailing_zeros w64 rest) false ≡ true
    slot-here = sym (left.bits (trailing_zeros w64 rest) (omega arith) (lowest-in rest some fits)) ∙ lowest-set rest some fits

    pub place-in : 64 * k + trailing_zeros w64 rest < n
    place-in =
        ⊎_elim
        (λ (lt : 64 * k + trailing_zeros w64 rest < n). lt)
        (λ (le : n ≤ 64 * k + trailing_zeros w64 rest). absurd (apart (sym slot-here ∙ slot-past (64 * k + trailing_zeros w64 rest) le)))
        (cases_lt (64 * k + trailing_zeros w64 rest) n)

    pub has-room : (old : List ℕ) (m flag : ℕ) (out : List ℕ) → IsListed least n words old (64 * k + trailing_zeros w64 rest) m out → length (set_of (state_in least n words flag)) ≤ length old → m < length old
    has-room old m flag out h room =
        let p : ℕ = 64 * k + trailing_zeros w64 rest in
        let more = length-more least n words p m true place-in (sym slot-here ∙ slot-bit least n words p place-in) h.place in
        omega (arith, more, members-le least n words (p + 1) (omega (arith, place-in)), ap length (set-is least n words flag), room)

    -- and after it
    pub left-next : bit_and rest (rest - 1) < 2 ^ 64 → IsLeft least n words k (bit_and rest (rest - 1))
    left-next small =
        let above = next-above rest some fits small in
        record { bits = λ i from lt. cleared-others rest some fits i (λ e. omega (arith, above, from, e)) ∙ left.bits i (omega (arith, above, from)) lt }

    pub listed-next : (old : List ℕ) (m low : ℕ) (out : List ℕ) → bit_and rest (rest - 1) < 2 ^ 64 → IsListed least n words old (64 * k + trailing_zeros w64 rest) m out → m < length old → low ≡ low_word (least +ℤ pos (64 * k + trailing_zeros w64 rest)) → IsListed least n words old (64 * k + trailing_zeros w64 (bit_and rest (rest - 1))) (m + 1) (slice_set out m low)
    listed-next old m low out small h room is =
        let p : ℕ = 64 * k + trailing_zeros w64 rest in
        let q : ℕ = 64 * k + trailing_zeros w64 (bit_and rest (rest - 1)) in
        let above = next-above rest some fits small in
        let bit = sym slot-here ∙ slot-bit least n words p place-in in
        moved old (p + 1) q (m + 1) (slice_set out m low)
        (skip-to (p + 1) q (omega (arith, above))
        (λ i from to.
        let at : 64 * k + (i - 64 * k) ≡ i = omega arith in
        let off : i - 64 * k ≢ trailing_zeros w64 rest = λ e. omega (arith, e) in
        sym (ap (λ j. get_or (slots least n words) j false) at)
        ∙ sym (left.bits (i - 64 * k) (omega arith) (omega (arith, most (bit_and rest (rest - 1)))))
        ∙ sym (cleared-others rest some fits (i - 64 * k) off)
        ∙ unset (bit_and rest (rest - 1)) (i - 64 * k) small (omega arith)))
        record {
          place = length-more least n words p m true place-in bit h.place;
          listed = listed-more least n words p m low true old out place-in bit h.place (λ seen. room) is h.listed;
        }

  -- after word k
  pub listed-end : (old : List ℕ) (k rest m : ℕ) (out : List ℕ) → rest ≡ 0 → IsListed least n words old (64 * k + trailing_zeros w64 rest) m out → IsListed least n words old (64 * (k + 1)) m out
  listed-end old k rest m out none h =
      let at : 64 * (k + 1) ≡ 64 * k + trailing_zeros w64 rest = omega (arith, ap (trailing_zeros w64) none ∙ no-ones) in
      moved old (64 * k + trailing_zeros w64 rest) (64 * (k + 1)) m out (ap (members least (slots least n words)) at) h

  -- after all words
  pub listed-all : (old : List ℕ) (p m flag : ℕ) (out : List ℕ) → n ≤ p → IsListed least n words old p m out → out ≡ map low_word (set_of (state_in least n words flag)) ++ drop (length (set_of (state_in least n words flag))) old
  listed-all old p m flag out le h =
      let seen : members least (slots least n words) p ≡ set_of (state_in least n words flag) = skip-to n p le (λ i from to. slot-past i from) ∙ sym (set-is least n words flag) in
      h.listed ∙ ap₂ (λ (vs : List ℤ) (j : ℕ). map low_word vs ++ drop j old) seen (h.place ∙ ap length seen)

  pub listed-none : (old : List ℕ) → IsListed least n words old (64 * 0) 0 old
  listed-none old = record { place = refl; listed = refl }
