-- Lists of the first values of a function.
use Rattle.std.proofs.Common.{◌≡◌, ℕ, ◌+◌, ◌-◌, ◌<◌, Bool, List, ◌++◌, length, get_or, sym, ap, ◌∙◌, arith}
use Rattle.std.proofs.lemmas.List.{same_lists, length-append, get_or_append_left, get_or-append_right}
use Rattle.std.proofs.lemmas.List.FromFn.{length-map-range_with_len, get_or-map-range_with_len}
use Rattle.std.proofs.lemmas.Bool.{cases_lt}
use mathlib.Core.Logic.{⊎_elim}
use Rattle.polars_arrays_words.specs.Bits.{first_of}

pub length-first : (f : ℕ → Bool) (n : ℕ) → length (first_of f n) ≡ n
length-first f n = length-map-range_with_len f 0 n

pub get_or-first : (f : ℕ → Bool) (n i : ℕ) (d : Bool) → i < n → get_or (first_of f n) i d ≡ f i
get_or-first f n i d lt = get_or-map-range_with_len f 0 n i i d lt (omega arith)

-- a list of n elements that are the values
pub first_is : (f : ℕ → Bool) (n : ℕ) (bs : List Bool) → length bs ≡ n → ((i : ℕ) (d : Bool) → i < n → f i ≡ get_or bs i d) → first_of f n ≡ bs
first_is f n bs long same =
    same_lists (first_of f n) bs (length-first f n ∙ sym long)
    (λ i d lt. let below : i < n = omega (arith, length-first f n) in get_or-first f n i d below ∙ same i d below)

-- two functions that agree
pub first_same : (f g : ℕ → Bool) (n : ℕ) → ((i : ℕ) → i < n → f i ≡ g i) → first_of f n ≡ first_of g n
first_same f g n same = first_is f n (first_of g n) (length-first g n) (λ i d lt. same i lt ∙ sym (get_or-first g n i d lt))

-- the first m values, and n more
pub first-append : (f : ℕ → Bool) (m n : ℕ) → first_of f (m + n) ≡ first_of f m ++ first_of (λ i. f (m + i)) n
first-append f m n =
    let front = first_of f m in
    let back = first_of (λ i. f (m + i)) n in
    let long : length (front ++ back) ≡ m + n = omega (arith, length-append front back, length-first f m, length-first (λ i. f (m + i)) n) in
    first_is f (m + n) (front ++ back) long
    (λ i d lt.
    ⊎_elim
    (λ below. let there : i < length front = omega (arith, length-first f m) in sym (get_or_append_left front back d i there ∙ get_or-first f m i d below))
    (λ past.
    let within : i - m < n = omega arith in
    let place : m + (i - m) ≡ i = omega arith in
    sym (get_or-append_right front back m i d (length-first f m) past ∙ get_or-first (λ j. f (m + j)) n (i - m) d within ∙ ap f place))
    (cases_lt i m))
