-- Windows of bits: of whole lists, cut, and joined by an operator.
use Rattle.std.proofs.Common.{◌≡◌, ℕ, zero, suc, ◌+◌, ◌*◌, ◌/◌, ◌%◌, ◌<◌, ◌≤◌, Bool, true, false, not, cond, List, [], ◌∷◌, length, get_or, take, drop, map, replicate, slice_get, Some, refl, sym, ap, ap₂, ◌∙◌, arith, count_by}
use Rattle.std.proofs.lemmas.List.{length-take, length-drop, length-map, get_or-take, get_or-drop, get_or-map, get_or-replicate, length-replicate}
use Rattle.std.proofs.lemmas.List.Sums.{sum_by-cons}
use Rattle.std.proofs.lemmas.Option.{slice_get-get_or}
use Rattle.std.proofs.lemmas.Simd.{length-zip2, get_or-zip2}
use Rattle.std.specs.Simd.Lanes.{zip2}
use Rattle.polars_arrays_words.specs.Bits.{is_bit, bit_of, first_of, window, zip3}
use Rattle.polars_arrays_words.proofs.Firsts.{length-first, get_or-first, first_is, first_same}

-- the length of a list that is known as first values
pub length_is : (f : ℕ → Bool) (n : ℕ) (xs : List Bool) → first_of f n ≡ xs → length xs ≡ n
length_is f n xs e = sym (ap length e) ∙ length-first f n

-- its elements
pub value_is : (f : ℕ → Bool) (n i : ℕ) (xs : List Bool) (d : Bool) → first_of f n ≡ xs → i < n → get_or xs i d ≡ f i
value_is f n i xs d e lt = sym (ap (λ l. get_or l i d) e) ∙ get_or-first f n i d lt

-- a bit that was read from words
pub bit-read : (words : List ℕ) (at n i : ℕ) (xs : List Bool) (bit : Bool) → window at n words ≡ xs → i < length xs → bit ≡ bit_of words (at + i) → slice_get xs i ≡ Some bit
bit-read words at n i xs bit e lt read =
    let below : i < n = omega (arith, length_is (λ j. bit_of words (at + j)) n xs e) in
    slice_get-get_or xs i false lt ∙ ap Some (value_is (λ j. bit_of words (at + j)) n i xs false e below ∙ sym read)

-- ---- words cut

-- a bit of a part of words
pub bit_of-cut : (first count p : ℕ) (words : List ℕ) → p < 64 * count → bit_of (take count (drop first words)) p ≡ bit_of words (64 * first + p)
bit_of-cut first count p words lt =
    let within : p / 64 < count = omega arith in
    let word : first + p / 64 ≡ (64 * first + p) / 64 = omega arith in
    let place : p % 64 ≡ (64 * first + p) % 64 = omega arith in
    ap (λ w. is_bit w (p % 64)) (get_or-take count (drop first words) (p / 64) 0 within ∙ get_or-drop first words (p / 64) 0)
    ∙ ap₂ (λ k i. is_bit (get_or words k 0) i) word place

-- a part of a window, in a part of its words
pub window-cut :
    (first count by at n k m : ℕ) (words : List ℕ) (xs : List Bool) → window at n words ≡ xs → k + m ≤ length xs → 64 * first + by ≡ at + k → by + m ≤ 64 * count →
    window by m (take count (drop first words)) ≡ take m (drop k xs)
window-cut first count by at n k m words xs e le begin enough =
    let long : length xs ≡ n = length_is (λ i. bit_of words (at + i)) n xs e in
    first_is (λ i. bit_of (take count (drop first words)) (by + i)) m (take m (drop k xs)) (omega (arith, length-take m (drop k xs), length-drop k xs))
    (λ i d lt.
    let within : by + i < 64 * count = omega arith in
    let place : 64 * first + (by + i) ≡ at + (k + i) = omega arith in
    bit_of-cut first count (by + i) words within
    ∙ ap (bit_of words) place
    ∙ sym (value_is (λ j. bit_of words (at + j)) n (k + i) xs d e (omega arith))
    ∙ sym (get_or-drop k xs i d)
    ∙ sym (get_or-take m (drop k xs) i d lt))

-- a part of a window, in the same words
pub window-part : (words : List ℕ) (at n k m : ℕ) (xs : List Bool) → window at n words ≡ xs → k + m ≤ length xs → window (at + k) m words ≡ take m (drop k xs)
window-part words at n k m xs e le =
    let long : length xs ≡ n = length_is (λ i. bit_of words (at + i)) n xs e in
    first_is (λ i. bit_of words (at + k + i)) m (take m (drop k xs)) (omega (arith, length-take m (drop k xs), length-drop k xs))
    (λ i d lt.
    let place : at + k + i ≡ at + (k + i) = omega arith in
    ap (bit_of words) place
    ∙ sym (value_is (λ j. bit_of words (at + j)) n (k + i) xs d e (omega arith))
    ∙ sym (get_or-drop k xs i d)
    ∙ sym (get_or-take m (drop k xs) i d lt))

-- words of one value
pub window-replicate : (value : Bool) (count n word : ℕ) → n ≤ 64 * count → ((i : ℕ) → i < 64 → is_bit word i ≡ value) → window 0 n (replicate count word) ≡ replicate n value
window-replicate value count n word le same =
    first_is (λ i. bit_of (replicate count word) (0 + i)) n (replicate n value) (length-replicate n value)
    (λ i d lt.
    let at : 0 + i ≡ i = omega arith in
    let within : i / 64 < count = omega arith in
    ap (bit_of (replicate count word)) at
    ∙ ap (λ w. is_bit w (i % 64)) (get_or-replicate count (i / 64) word 0 within)
    ∙ same (i % 64) (omega arith)
    ∙ sym (get_or-replicate n i value d lt))

-- ---- operators

-- words that are read from the first bit on
pub aligned : (at n : ℕ) (words read : List ℕ) (xs : List Bool) → at ≡ 0 → read ≡ words → window at n words ≡ xs → first_of (λ i. bit_of read i) n ≡ xs
aligned at n words read xs none same e =
    first_same (λ i. bit_of read i) (λ i. bit_of words (at + i)) n (λ i lt. let place : i ≡ at + i = omega arith in ap₂ bit_of same place) ∙ e

-- words that are read from a later bit on
pub shifted : (at n : ℕ) (words read : List ℕ) (xs : List Bool) → read ≡ words → window at n words ≡ xs → first_of (λ i. bit_of read (at + i)) n ≡ xs
shifted at n words read xs same e = ap (λ ws. window at n ws) same ∙ e

pub first-map : (g : Bool → Bool) (f : ℕ → Bool) (n : ℕ) (xs : List Bool) → first_of f n ≡ xs → first_of (λ i. g (f i)) n ≡ map g xs
first-map g f n xs e =
    let long : length xs ≡ n = length_is f n xs e in
    first_is (λ i. g (f i)) n (map g xs) (length-map xs g ∙ long)
    (λ i d lt. let there : i < length xs = omega arith in ap g (sym (value_is f n i xs d e lt)) ∙ sym (get_or-map g xs i d d there))

pub first-zip2 :
    (g : Bool → Bool → Bool) (f h : ℕ → Bool) (n m : ℕ) (xs ys : List Bool) → first_of f n ≡ xs → first_of h m ≡ ys → length ys ≡ length xs →
    first_of (λ i. g (f i) (h i)) n ≡ zip2 g xs ys
first-zip2 g f h n m xs ys ex ey same =
    let long : length xs ≡ n = length_is f n xs ex in
    let other : length ys ≡ m = length_is h m ys ey in
    first_is (λ i. g (f i) (h i)) n (zip2 g xs ys) (length-zip2 g xs ys (sym same) ∙ long)
    (λ i d lt.
    let ix : i < length xs = omega arith in
    let iy : i < length ys = omega arith in
    ap₂ g (sym (value_is f n i xs d ex lt)) (sym (value_is h m i ys d ey (omega arith))) ∙ sym (get_or-zip2 g xs ys i d d d ix iy))

length-zip3 : (g : Bool → Bool → Bool → Bool) (xs ys zs : List Bool) → length ys ≡ length xs → length zs ≡ length xs → length (zip3 g xs ys zs) ≡ length xs
length-zip3 g [] ys zs ey ez = refl
length-zip3 g (x ∷ xs) [] zs ey ez = cc
length-zip3 g (x ∷ xs) (y ∷ ys) [] ey ez = cc
length-zip3 g (x ∷ xs) (y ∷ ys) (z ∷ zs) ey ez = ap suc (length-zip3 g xs ys zs (omega arith) (omega arith))

get_or-zip3 : (g : Bool → Bool → Bool → Bool) (xs ys zs : List Bool) (i : ℕ) (d : Bool) → i < length xs → i < length ys → i < length zs → get_or (zip3 g xs ys zs) i d ≡ g (get_or xs i d) (get_or ys i d) (get_or zs i d)
get_or-zip3 g [] ys zs i d lx ly lz = absurd (omega arith)
get_or-zip3 g (x ∷ xs) [] zs i d lx ly lz = absurd (omega arith)
get_or-zip3 g (x ∷ xs) (y ∷ ys) [] i d lx ly lz = absurd (omega arith)
get_or-zip3 g (x ∷ xs) (y ∷ ys) (z ∷ zs) zero d lx ly lz = refl
get_or-zip3 g (x ∷ xs) (y ∷ ys) (z ∷ zs) (suc i) d lx ly lz = get_or-zip3 g xs ys zs i d (omega arith) (omega arith) (omega arith)

pub first-zip3 :
    (g : Bool → Bool → Bool → Bool) (f h k : ℕ → Bool) (n m l : ℕ) (xs ys zs : List Bool) → first_of f n ≡ xs → first_of h m ≡ ys → first_of k l ≡ zs → length ys ≡ length xs → length zs ≡ length xs →
    first_of (λ i. g (f i) (h i) (k i)) n ≡ zip3 g xs ys zs
first-zip3 g f h k n m l xs ys zs ex ey ez same_y same_z =
    let long : length xs ≡ n = length_is f n xs ex in
    let other : length ys ≡ m = length_is h m ys ey in
    let third : length zs ≡ l = length_is k l zs ez in
    first_is (λ i. g (f i) (h i) (k i)) n (zip3 g xs ys zs) (length-zip3 g xs ys zs same_y same_z ∙ long)
    (λ i d lt.
    ap (λ x. g x (h i) (k i)) (sym (value_is f n i xs d ex lt))
    ∙ ap₂ (g (get_or xs i d)) (sym (value_is h m i ys d ey (omega arith))) (sym (value_is k l i zs d ez (omega arith)))
    ∙ sym (get_or-zip3 g xs ys zs i d (omega arith) (omega arith) (omega arith)))

-- as many values as a list has that is known to be these values
pub first-as_long : (f : ℕ → Bool) (n m : ℕ) (xs : List Bool) → first_of f n ≡ xs → m ≡ length xs → first_of f m ≡ xs
first-as_long f n m xs e same =
    let long : length xs ≡ n = length_is f n xs e in
    ap (first_of f) (same ∙ long) ∙ e

-- the last operand is a list, the others are as many values
pub zip2-last : (g : Bool → Bool → Bool) (f h : ℕ → Bool) (n : ℕ) (ys : List Bool) → first_of h n ≡ ys → first_of (λ i. g (f i) (h i)) n ≡ zip2 g (first_of f (length ys)) ys
zip2-last g f h n ys e =
    let long : length ys ≡ n = length_is h n ys e in
    first-zip2 g f h n n (first_of f (length ys)) ys (ap (first_of f) (sym long)) e (sym (length-first f (length ys)))

pub zip3-last :
    (g : Bool → Bool → Bool → Bool) (f h k : ℕ → Bool) (n : ℕ) (zs : List Bool) → first_of k n ≡ zs →
    first_of (λ i. g (f i) (h i) (k i)) n ≡ zip3 g (first_of f (length zs)) (first_of h (length zs)) zs
zip3-last g f h k n zs e =
    let long : length zs ≡ n = length_is k n zs e in
    let first : length (first_of f (length zs)) ≡ length zs = length-first f (length zs) in
    let second : length (first_of h (length zs)) ≡ length zs = length-first h (length zs) in
    first-zip3 g f h k n n n (first_of f (length zs)) (first_of h (length zs)) zs (ap (first_of f) (sym long)) (ap (first_of h) (sym long)) e (second ∙ sym first) (sym first)

-- the last two operands are lists, the first one is as many values
pub zip3-last_two :
    (g : Bool → Bool → Bool → Bool) (f h k : ℕ → Bool) (n l : ℕ) (ys zs : List Bool) → first_of h n ≡ ys → first_of k l ≡ zs → length zs ≡ length ys →
    first_of (λ i. g (f i) (h i) (k i)) n ≡ zip3 g (first_of f (length ys)) ys zs
zip3-last_two g f h k n l ys zs ey ez same =
    let long : length ys ≡ n = length_is h n ys ey in
    let first : length (first_of f (length ys)) ≡ length ys = length-first f (length ys) in
    first-zip3 g f h k n n l (first_of f (length ys)) ys zs (ap (first_of f) (sym long)) ey ez (sym first) (same ∙ sym first)

-- ---- counts

-- the true and the false ones are all
pub count_by-not : (xs : List Bool) → count_by (λ b. b) xs + count_by not xs ≡ length xs
count_by-not [] = refl
count_by-not (true ∷ xs) = omega (arith, count_by-not xs, sum_by-cons (λ (b : Bool). cond b 1 0) true xs, sum_by-cons (λ (b : Bool). cond (not b) 1 0) true xs)
count_by-not (false ∷ xs) = omega (arith, count_by-not xs, sum_by-cons (λ (b : Bool). cond b 1 0) false xs, sum_by-cons (λ (b : Bool). cond (not b) 1 0) false xs)
