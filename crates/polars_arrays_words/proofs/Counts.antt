-- How many bits are set.
use Rattle.std.proofs.Common.{◌≡◌, ℕ, zero, suc, ◌+◌, ◌-◌, ◌*◌, ◌/◌, ◌%◌, ◌^◌, ◌<◌, ◌≤◌, Bool, true, false, eqb, cond, List, [], ◌∷◌, length, get_or, refl, sym, ap, ap₂, ◌∙◌, arith, bit_and, count_by}
use Rattle.std.specs.Int.RustNames.{count_ones}
use Rattle.std.proofs.Math.Nat.{add_comm, mod-one}
use Rattle.std.proofs.lemmas.Nat.{mod-pow-add, mod_below, ones_cat, and_mask, one_shl}
use Rattle.std.proofs.lemmas.Nat.Bits.{bit_at-suc, bit_at_lowest}
use Rattle.std.proofs.lemmas.List.Recursion.{is_count_by}
use Rattle.std.proofs.lemmas.List.Sums.{sum_by-append, count_by-le-length}
use Rattle.std.proofs.Math.Numerals.{add-one}
use Rattle.polars_arrays_words.specs.Bits.{is_bit, first_of, true_count, IsWord}
use Rattle.polars_arrays_words.proofs.Firsts.{length-first, first_is, first-append}

-- ---- the bits of a number

-- the n lowest bits, lowest first
unfoldable bits_of : ℕ → ℕ → List Bool
bits_of zero x = []
bits_of (suc n) x = eqb (x % 2) 1 ∷ bits_of n (x / 2)

length-bits_of : (n x : ℕ) → length (bits_of n x) ≡ n
unfolding bits_of
length-bits_of zero x = refl
length-bits_of (suc n) x = ap suc (length-bits_of n (x / 2))

get_or-bits_of : (n x i : ℕ) (d : Bool) → i < n → get_or (bits_of n x) i d ≡ is_bit x i
unfolding bits_of
get_or-bits_of zero x i d h = absurd (omega arith)
get_or-bits_of (suc n) x zero d h = ap (λ y. eqb y 1) (sym (bit_at_lowest x))
get_or-bits_of (suc n) x (suc i) d h = get_or-bits_of n (x / 2) i d (omega arith) ∙ ap (λ y. eqb y 1) (sym (bit_at-suc x i))

trues : List Bool → ℕ
trues [] = 0
trues (b ∷ bs) = cond b 1 0 + trues bs

trues_step : (b : Bool) (n : ℕ) → cond b 1 0 + n ≡ cond b (1 + n) n
trues_step true n = refl
trues_step false n = omega arith

trues_is : (bs : List Bool) → trues bs ≡ count_by (λ b. b) bs
unfolding trues
trues_is bs = is_count_by trues (λ b. b) refl (λ b rest. trues_step b (trues rest)) bs

count_by_cons : (b : Bool) (bs : List Bool) → cond b 1 0 + count_by (λ c. c) bs ≡ count_by (λ c. c) (b ∷ bs)
unfolding trues
count_by_cons b bs = ap (λ n. cond b 1 0 + n) (sym (trues_is bs)) ∙ trues_is (b ∷ bs)

digit_count : (x : ℕ) → x < 2 → cond (eqb x 1) 1 0 ≡ count_ones x
unfolding count_ones
digit_count zero h = refl
digit_count (suc zero) h = refl
digit_count (suc (suc x)) h = absurd (omega arith)

ones_none : count_ones 0 ≡ 0
unfolding count_ones
ones_none = refl

count_bits_of : (n x : ℕ) → count_by (λ b. b) (bits_of n x) ≡ count_ones (x % 2 ^ n)
unfolding bits_of
count_bits_of zero x = sym (ap count_ones (mod-one x) ∙ ones_none)
count_bits_of (suc n) x =
    sym (count_by_cons (eqb (x % 2) 1) (bits_of n (x / 2)))
    ∙ ap₂ (λ a b. a + b) (digit_count (x % 2) (mod_below x 2 (omega arith))) (count_bits_of n (x / 2))
    ∙ add_comm (count_ones (x % 2)) (count_ones (x / 2 % 2 ^ n))
    ∙ sym (ones_cat 1 (x / 2 % 2 ^ n) (x % 2) (mod_below x 2 (omega arith)))
    ∙ ap count_ones (sym (mod-pow-add x n 1) ∙ ap (λ e. x % 2 ^ e) (add-one n))

-- ---- the values that a source gives

pub true_count-le : (f : ℕ → Bool) (n : ℕ) → true_count f n ≤ n
true_count-le f n = omega (arith, count_by-le-length (λ (b : Bool). b) (first_of f n), length-first f n)

-- the values that are the lowest bits of a word
word_values : (f : ℕ → Bool) (k r word : ℕ) → IsWord f k word → r ≤ 64 → first_of (λ i. f (64 * k + i)) r ≡ bits_of r word
word_values f k r word is le =
    first_is (λ i. f (64 * k + i)) r (bits_of r word) (length-bits_of r word)
    (λ i d lt. let below : i < 64 = omega arith in sym (get_or-bits_of r word i d lt ∙ is.bits i below))

-- r values more, which a word has
true_count-rest : (f : ℕ → Bool) (k r word : ℕ) → IsWord f k word → r ≤ 64 → true_count f (64 * k + r) ≡ true_count f (64 * k) + count_ones (word % 2 ^ r)
true_count-rest f k r word is le =
    ap (count_by (λ (b : Bool). b)) (first-append f (64 * k) r)
    ∙ sum_by-append (λ (b : Bool). cond b 1 0) (first_of f (64 * k)) (first_of (λ i. f (64 * k + i)) r)
    ∙ ap (λ n. true_count f (64 * k) + n) (ap (count_by (λ (b : Bool). b)) (word_values f k r word is le) ∙ count_bits_of r word)

mod_small : (word : ℕ) → word < 2 ^ 64 → word % 2 ^ 64 ≡ word
mod_small word fits = omega arith

-- one word more
pub true_count-more : (f : ℕ → Bool) (k word : ℕ) → IsWord f k word → word < 2 ^ 64 → true_count f (64 * (k + 1)) ≡ true_count f (64 * k) + count_ones word
true_count-more f k word is fits =
    let next : 64 * (k + 1) ≡ 64 * k + 64 = omega arith in
    ap (true_count f) next ∙ true_count-rest f k 64 word is (omega arith) ∙ ap (λ x. true_count f (64 * k) + count_ones x) (mod_small word fits)

-- four words more
pub true_count-four :
    (f : ℕ → Bool) (k a b c d : ℕ) → IsWord f k a → a < 2 ^ 64 → IsWord f (k + 1) b → b < 2 ^ 64 → IsWord f (k + 2) c → c < 2 ^ 64 → IsWord f (k + 3) d → d < 2 ^ 64 →
    true_count f (64 * (k + 4)) ≡ true_count f (64 * k) + (count_ones a + count_ones b + count_ones c + count_ones d)
true_count-four f k a b c d is_a fits_a is_b fits_b is_c fits_c is_d fits_d =
    let two : k + 1 + 1 ≡ k + 2 = omega arith in
    let three : k + 2 + 1 ≡ k + 3 = omega arith in
    let four : k + 3 + 1 ≡ k + 4 = omega arith in
    let upto : ℕ → ℕ = λ m. true_count f (64 * m) in
    omega (
      arith,
      true_count-more f k a is_a fits_a,
      true_count-more f (k + 1) b is_b fits_b,
      true_count-more f (k + 2) c is_c fits_c,
      true_count-more f (k + 3) d is_d fits_d,
      ap upto two,
      ap upto three,
      ap upto four,
    )

-- the rest of a list, which is shorter than a word, by a mask
pub true_count-end : (f : ℕ → Bool) (n word : ℕ) → IsWord f (n / 64) word → true_count f n ≡ true_count f (64 * (n / 64)) + count_ones (bit_and word (1 * 2 ^ (n % 64) % 2 ^ 64 - 1))
true_count-end f n word is =
    let split : n ≡ 64 * (n / 64) + n % 64 = omega arith in
    ap (true_count f) split
    ∙ true_count-rest f (n / 64) (n % 64) word is (omega arith)
    ∙ ap (λ x. true_count f (64 * (n / 64)) + count_ones x) (sym (ap (λ y. bit_and word (y - 1)) (one_shl (n % 64) 64 (omega arith)) ∙ and_mask word (n % 64)))
