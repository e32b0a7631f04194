-- Slots in a word, and how many of a list are set.
use Rattle.std.proofs.Common.{◌≡◌, ◌<◌, ◌≤◌, ◌+◌, ◌-◌, ◌*◌, ◌/◌, ◌%◌, ◌^◌, ◌∙◌, ◌||◌, ℕ, zero, suc, Bool, true, false, cond, eqb, List, length, take, get_or, replicate, count_by, refl, sym, ap, ap₂, arith, bit_and, bit_or, max}
use Rattle.std.specs.Prelude.{slice_get, slice_set, Some}
use Rattle.std.specs.Int.{bit_at, w128}
use Rattle.std.specs.Int.RustNames.{count_ones}
use Rattle.std.specs.Simd.Lanes.{zip2}
use Rattle.std.proofs.Math.Nat.{add_comm, mod-one, mod-eq_of_lt}
use Rattle.std.proofs.Math.Pow.{pow-lt}
use Rattle.std.proofs.Math.Numerals.{add-one}
use Rattle.std.proofs.lemmas.Nat.{mod-pow-add, pow-add, mod_below, ones_cat, or_lt, pow_pos}
use Rattle.std.proofs.lemmas.Nat.Bits.{bit_at_or, bit_at-lt, bit_at_set_same, bit_at_set_other, bit_at-zero, shr_and_one}
use Rattle.std.proofs.lemmas.List.{same_lists, take_all, length-set, get_or-set_same, get_or-set_other, get_or-replicate, length-replicate}
use Rattle.std.proofs.lemmas.List.FromFn.{length-map-range_with_len, get_or-map-range_with_len}
use Rattle.std.proofs.lemmas.List.Sums.{count_by_more_no, count_by_more_yes}
use Rattle.std.proofs.lemmas.Bool.{cases_eq}
use Rattle.std.proofs.lemmas.Bool.Decides.{nat_tests}
use mathlib.Core.Logic.{⊎_elim}
use mir.Val.{bool_byte}
use Rattle.std.proofs.lemmas.Option.{get_or_from_slice_get, slice_get-get_or}
use Rattle.std.proofs.lemmas.Simd.{length-zip2, get_or-zip2}
use Rattle.polars_arrays_words.specs.Bits.{first_of, is_bit}

-- ---- counts

count-case : (xs : List Bool) (i : ℕ) (b : Bool) → i < length xs → get_or xs i false ≡ b → count_by (λ c. c) (take (i + 1) xs) ≡ count_by (λ c. c) (take i xs) + cond b 1 0
count-case xs i true h e = count_by_more_yes (λ c. c) xs i false h e
count-case xs i false h e = omega (arith, count_by_more_no (λ c. c) xs i false h e)

-- one place more
pub count-more : (xs : List Bool) (i : ℕ) → i < length xs → count_by (λ c. c) (take (i + 1) xs) ≡ count_by (λ c. c) (take i xs) + cond (get_or xs i false) 1 0
count-more xs i h = count-case xs i (get_or xs i false) h refl

-- all but the last one
count-front : (xs : List Bool) (n : ℕ) (last : Bool) → length xs ≡ n + 1 → slice_get xs n ≡ Some last → count_by (λ c. c) xs ≡ count_by (λ c. c) (take n xs) + cond last 1 0
count-front xs n last long e =
    let is : get_or xs n false ≡ last = get_or_from_slice_get xs n last false e in
    ap (λ ys. count_by (λ c. c) ys) (sym (take_all (n + 1) xs (omega arith))) ∙ count-case xs n last (omega arith) is

byte_is : (b : Bool) → bool_byte b ≡ cond b 1 0
byte_is true = refl
byte_is false = refl

-- the same with the last one as a number
pub front-count : (xs : List Bool) (n m : ℕ) (last : Bool) → length xs ≡ n + 1 → slice_get xs n ≡ Some last → m ≡ bool_byte last → count_by (λ c. c) xs ≡ count_by (λ c. c) (take n xs) + m
front-count xs n m last long e is = count-front xs n last long e ∙ ap (λ k. count_by (λ c. c) (take n xs) + k) (sym (is ∙ byte_is last))

-- ---- bits of a word

pub length-first : (f : ℕ → Bool) (n : ℕ) → length (first_of f n) ≡ n
length-first f n = length-map-range_with_len f 0 n

get_or-first : (f : ℕ → Bool) (n i : ℕ) (d : Bool) → i < n → get_or (first_of f n) i d ≡ f i
get_or-first f n i d lt = get_or-map-range_with_len f 0 n i i d lt (omega arith)

-- a list of n elements that are the values
first_is : (f : ℕ → Bool) (n : ℕ) (bs : List Bool) → length bs ≡ n → ((i : ℕ) (d : Bool) → i < n → f i ≡ get_or bs i d) → first_of f n ≡ bs
first_is f n bs long same =
    same_lists (first_of f n) bs (length-first f n ∙ sym long)
    (λ i d lt. let below : i < n = omega (arith, length-first f n) in get_or-first f n i d below ∙ same i d below)

digit_count : (x : ℕ) → x < 2 → cond (eqb x 1) 1 0 ≡ count_ones x
unfolding count_ones
digit_count zero h = refl
digit_count (suc zero) h = refl
digit_count (suc (suc x)) h = absurd (omega arith)

ones_none : count_ones 0 ≡ 0
unfolding count_ones
ones_none = refl

count_bits : (x n k : ℕ) → k ≤ n → count_by (λ c. c) (take k (first_of (is_bit x) n)) ≡ count_ones (x % 2 ^ k)
count_bits x n zero h = sym (ap count_ones (mod-one x) ∙ ones_none)
count_bits x n (suc k) h =
    let bits = first_of (is_bit x) n in
    let there : k < length bits = omega (arith, length-first (is_bit x) n) in
    let exponent : 1 + k ≡ suc k = omega arith in
    ap (λ j. count_by (λ c. c) (take j bits)) (sym (add-one k))
    ∙ count-more bits k there
    ∙ ap₂ (λ a b. a + b) (count_bits x n k (omega arith)) (ap (λ b. cond b 1 0) (get_or-first (is_bit x) n k false (omega arith)) ∙ digit_count (x / 2 ^ k % 2) (mod_below (x / 2 ^ k) 2 (omega arith)))
    ∙ add_comm (count_ones (x % 2 ^ k)) (count_ones (x / 2 ^ k % 2))
    ∙ sym (ones_cat k (x / 2 ^ k % 2) (x % 2 ^ k) (mod_below x (2 ^ k) (pow_pos k)))
    ∙ ap count_ones (sym (mod-pow-add x 1 k) ∙ ap (λ e. x % 2 ^ e) exponent)

pub count_word : (x n : ℕ) → x < 2 ^ n → count_by (λ c. c) (first_of (is_bit x) n) ≡ count_ones x
count_word x n fits =
    let bits = first_of (is_bit x) n in
    ap (λ bs. count_by (λ c. c) bs) (sym (take_all n bits (omega (arith, length-first (is_bit x) n)))) ∙ count_bits x n n (omega arith) ∙ ap count_ones (mod-eq_of_lt fits)

test_or : (x y : ℕ) → x < 2 → y < 2 → eqb (max x y) 1 ≡ (eqb x 1 || eqb y 1)
test_or x y p q = grind (arith, nat_tests)

is_bit_or : (x y i : ℕ) → is_bit (bit_or x y) i ≡ (is_bit x i || is_bit y i)
is_bit_or x y i = ap (λ b. eqb b 1) (bit_at_or x y i) ∙ test_or (bit_at x i) (bit_at y i) (bit_at-lt x i) (bit_at-lt y i)

or-true : (b : Bool) → (b || true) ≡ true
or-true true = refl
or-true false = refl

-- a bit is set
word-set-shifted : (x n i : ℕ) → n ≤ 128 → i < n → first_of (is_bit (bit_or x (1 * 2 ^ i % 2 ^ 128))) n ≡ slice_set (first_of (is_bit x) n) i true
word-set-shifted x n i few within =
    let bits = first_of (is_bit x) n in
    let long : length bits ≡ n = length-first (is_bit x) n in
    let is_in : i < length bits = omega arith in
    first_is (is_bit (bit_or x (1 * 2 ^ i % 2 ^ 128))) n (slice_set bits i true) (length-set bits i true ∙ long)
    (λ j d lt.
    ⊎_elim
    (λ (same : j ≡ i). ap (λ k. is_bit (bit_or x (1 * 2 ^ i % 2 ^ 128)) k) same ∙ ap (λ b. eqb b 1) (bit_at_set_same w128 x i (omega arith)) ∙ sym (ap (λ k. get_or (slice_set bits i true) k d) same ∙ get_or-set_same bits i true d is_in))
    (λ (other : j ≡ i → ⊥). ap (λ b. eqb b 1) (bit_at_set_other w128 x i (omega arith) j other) ∙ sym (get_or-set_other bits i j true d other ∙ get_or-first (is_bit x) n j d lt))
    (cases_eq j i))

-- a number shifted by less than the bits of its type
shifted : (k n : ℕ) → k < n → 1 * 2 ^ k % 2 ^ n ≡ 2 ^ k
shifted k n lt =
    let small : 2 ^ k < 2 ^ n = pow-lt lt in
    mod-eq_of_lt (omega (arith, small)) ∙ omega arith

-- bit i of the upper half
pub upper_bit : (i half : ℕ) → 64 ≤ i → i < 128 → half ≡ 1 * 2 ^ (i % 64) % 2 ^ 64 → half * 2 ^ 64 % 2 ^ 128 ≡ 2 ^ i
upper_bit i half from below is =
    let place : i % 64 ≡ i - 64 = omega arith in
    let lower : half ≡ 2 ^ (i - 64) = is ∙ ap (λ k. 1 * 2 ^ k % 2 ^ 64) place ∙ shifted (i - 64) 64 (omega arith) in
    let whole : i - 64 + 64 ≡ i = omega arith in
    ap (λ n. n * 2 ^ 64 % 2 ^ 128) lower
    ∙ ap (λ n. n % 2 ^ 128) (sym (pow-add 2 (i - 64) 64) ∙ ap (λ k. 2 ^ k) whole)
    ∙ mod-eq_of_lt (pow-lt below)

pub word-set : (x n i : ℕ) → n ≤ 128 → i < n → first_of (is_bit (bit_or x (2 ^ i))) n ≡ slice_set (first_of (is_bit x) n) i true
word-set x n i few within = ap (λ b. first_of (is_bit (bit_or x b)) n) (sym (shifted i 128 (omega arith))) ∙ word-set-shifted x n i few within

pub word-set_fits : (x n i : ℕ) → i < n → x < 2 ^ n → bit_or x (2 ^ i) < 2 ^ n
word-set_fits x n i within fits = or_lt n x (2 ^ i) fits (pow-lt within)

-- two words joined
pub word-join : (x y n : ℕ) → first_of (is_bit (bit_or x y)) n ≡ zip2 ◌||◌ (first_of (is_bit x) n) (first_of (is_bit y) n)
word-join x y n =
    let xs = first_of (is_bit x) n in
    let ys = first_of (is_bit y) n in
    let long : length ys ≡ n = length-first (is_bit y) n in
    let same : length xs ≡ length ys = length-first (is_bit x) n ∙ sym long in
    first_is (is_bit (bit_or x y)) n (zip2 ◌||◌ xs ys) (length-zip2 ◌||◌ xs ys same ∙ length-first (is_bit x) n)
    (λ i d lt. is_bit_or x y i ∙ sym (get_or-zip2 ◌||◌ xs ys i d d d (omega (arith, length-first (is_bit x) n)) (omega arith) ∙ ap₂ ◌||◌ (get_or-first (is_bit x) n i d lt) (get_or-first (is_bit y) n i d lt)))

pub word-none : (n : ℕ) → first_of (is_bit 0) n ≡ replicate n false
word-none n =
    first_is (is_bit 0) n (replicate n false) (length-replicate n false)
    (λ i d lt. ap (λ b. eqb b 1) (bit_at-zero i) ∙ sym (get_or-replicate n i false d lt))

-- slots that are kept in a word, as they are seen
pub size_is : (x n : ℕ) (slots : List Bool) → first_of (is_bit x) n ≡ slots → length slots ≡ n
size_is x n slots e = sym (ap length e) ∙ length-first (is_bit x) n

pub slot_is : (x n i : ℕ) (slots : List Bool) → first_of (is_bit x) n ≡ slots → i < length slots → slice_get slots i ≡ Some (eqb (bit_and (x / 2 ^ i) 1) 1)
slot_is x n i slots e lt =
    let below : i < n = omega (arith, size_is x n slots e) in
    slice_get-get_or slots i false lt
    ∙ ap Some (sym (ap (λ l. get_or l i false) e) ∙ get_or-first (is_bit x) n i false below ∙ ap (λ b. eqb b 1) (sym (shr_and_one x i)))

pub word-bit : (x n i : ℕ) → i < n → eqb (bit_and (x / 2 ^ i) 1) 1 ≡ get_or (first_of (is_bit x) n) i false
word-bit x n i lt = ap (λ b. eqb b 1) (shr_and_one x i) ∙ sym (get_or-first (is_bit x) n i false lt)
