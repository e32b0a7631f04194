-- Truth values packed into 64-bit words in the Arrow layout: the first value is the lowest bit.
use Rattle.std.specs.Prelude.{◌≡◌, ℕ, ◌+◌, ◌*◌, ◌/◌, ◌%◌, ◌^◌, ◌<◌, ◌≤◌, Bool, eqb, List, [], ◌∷◌}
use Rattle.std.specs.Prelude.{length, get_or, map, count_by}
use Rattle.std.specs.List.{range_with_len}

-- true if bit i of a word is 1; bit 0 is the lowest
abbrev pub is_bit : ℕ → ℕ → Bool
is_bit word i = eqb (word / 2 ^ i % 2) 1

-- bit p of words, or false past their end; bit 0 is the lowest bit of the first word
abbrev pub bit_of : List ℕ → ℕ → Bool
bit_of words p = is_bit (get_or words (p / 64) 0) (p % 64)

-- the first n truth values that f gives
abbrev pub first_of : (ℕ → Bool) → ℕ → List Bool
first_of f n = map f (range_with_len 0 n)

-- the n bits of words from bit `at` on
abbrev pub window : ℕ → ℕ → List ℕ → List Bool
window at n words = first_of (λ i. bit_of words (at + i)) n

-- the bits of a word are values 64 k to 64 k + 63 of f
pub record IsWord (f : ℕ → Bool) (k word : ℕ) : Type 0 where
  pub bits : (i : ℕ) → i < 64 → is_bit word i ≡ f (64 * k + i)

-- n words whose bits are the values of f
pub record AreWords (f : ℕ → Bool) (n : ℕ) (words : List ℕ) : Type 0 where
  pub count : length words ≡ n
  pub each : (k : ℕ) → k < n → IsWord f k (get_or words k 0)

-- f of the elements at each place of three lists, up to the end of the shortest
abbrev pub zip3 : (Bool → Bool → Bool → Bool) → List Bool → List Bool → List Bool → List Bool
zip3 f [] ys zs = []
zip3 f (x ∷ xs) [] zs = []
zip3 f (x ∷ xs) (y ∷ ys) [] = []
zip3 f (x ∷ xs) (y ∷ ys) (z ∷ zs) = f x y z ∷ zip3 f xs ys zs

-- the number of true values among the first n of f
abbrev pub true_count : (ℕ → Bool) → ℕ → ℕ
true_count f n = count_by (λ b. b) (first_of f n)

-- the new words have `value` from bit `from` up to `to`, and elsewhere the bits of the old ones
pub record IsWritten (old new : List ℕ) (from to : ℕ) (value : Bool) : Type 0 where
  pub count : length new ≡ length old
  pub within : (p : ℕ) → from ≤ p → p < to → bit_of new p ≡ value
  pub below : (p : ℕ) → p < from → bit_of new p ≡ bit_of old p
  pub above : (p : ℕ) → to ≤ p → bit_of new p ≡ bit_of old p

-- the new words hold the old bits before bit p, then the bits of `word`, as far as there are words
pub record IsPut (old new : List ℕ) (p word : ℕ) : Type 0 where
  pub count : length new ≡ length old
  pub before : (q : ℕ) → q < p → bit_of new q ≡ bit_of old q
  pub bits : (i : ℕ) → i < 64 → p + i < 64 * length old → bit_of new (p + i) ≡ is_bit word i

-- h has changed each bit of word k: bit i of the word is bit 64 k + i of all words
pub record IsChangedWord (h : ℕ → Bool → Bool) (k old new : ℕ) : Type 0 where
  pub bits : (i : ℕ) → i < 64 → is_bit new i ≡ h (64 * k + i) (is_bit old i)

-- h has changed each bit of the words from `from` up to `to`; the other words are as before
pub record IsChanged (h : ℕ → Bool → Bool) (old new : List ℕ) (from to : ℕ) : Type 0 where
  pub count : length new ≡ length old
  pub within : (p : ℕ) → 64 * from ≤ p → p < 64 * to → bit_of new p ≡ h p (bit_of old p)
  pub below : (p : ℕ) → p < 64 * from → bit_of new p ≡ bit_of old p
  pub above : (p : ℕ) → 64 * to ≤ p → bit_of new p ≡ bit_of old p
