-- Windows of bits, some of them written.
use Rattle.std.proofs.Common.{◌≡◌, ℕ, ◌+◌, ◌-◌, ◌*◌, ◌<◌, ◌≤◌, Bool, false, List, ◌++◌, length, get_or, set, replicate, refl, sym, ap, ◌∙◌, arith}
use Rattle.std.proofs.lemmas.Bool.{cases_eq, cases_lt}
use Rattle.std.proofs.lemmas.List.{get_or-set_other, get_or-set_same, length-set, length-append, length-replicate, get_or_append_left, get_or-append_right, get_or-replicate, get_or_default}
use mathlib.Core.Logic.{⊎_elim}
use Rattle.polars_arrays_words.specs.Bits.{bit_of, window, IsWritten, first_of, zip3, IsChanged}
use Rattle.polars_arrays_words.proofs.Firsts.{first_is, first_same, length-first}
use Rattle.polars_arrays_bits.proofs.Windows.{length_is, value_is, first-zip2, first-zip3}
use Rattle.polars_arrays_words.specs.Packing.{AreAppended}
use Rattle.std.specs.Simd.Lanes.{zip2}

-- a window from the first bit on
pub front-bit : (words : List ℕ) (n i : ℕ) (xs : List Bool) (d : Bool) → window 0 n words ≡ xs → i < n → bit_of words i ≡ get_or xs i d
front-bit words n i xs d e lt =
    let place : i ≡ 0 + i = omega arith in
    ap (bit_of words) place ∙ sym (value_is (λ j. bit_of words (0 + j)) n i xs d e lt)

-- a list of n bits that are the first of words
pub front_is : (words : List ℕ) (n : ℕ) (xs : List Bool) → length xs ≡ n → ((i : ℕ) (d : Bool) → i < n → bit_of words i ≡ get_or xs i d) → window 0 n words ≡ xs
front_is words n xs long same =
    first_is (λ i. bit_of words (0 + i)) n xs long (λ i d lt. let place : 0 + i ≡ i = omega arith in ap (bit_of words) place ∙ same i d lt)

-- one bit set
pub window-set : (old new : List ℕ) (n i : ℕ) (value : Bool) (xs : List Bool) → window 0 n old ≡ xs → i < length xs → IsWritten old new i (i + 1) value → window 0 n new ≡ set xs i value
window-set old new n i value xs e lt w =
    let long : length xs ≡ n = length_is _ n xs e in
    front_is new n (set xs i value) (length-set xs i value ∙ long)
    (λ j d below.
    ⊎_elim
    (λ same. w.within j (omega arith) (omega arith) ∙ sym (ap (λ k. get_or (set xs i value) k d) same ∙ get_or-set_same xs i value d lt))
    (λ ne.
    ⊎_elim (λ less. w.below j less) (λ more. w.above j (omega arith)) (cases_lt j i)
    ∙ front-bit old n j xs d e below
    ∙ sym (get_or-set_other xs i j value d ne))
    (cases_eq j i))

-- bits appended
pub window-append : (old new : List ℕ) (n m : ℕ) (value : Bool) (xs : List Bool) → window 0 n old ≡ xs → IsWritten old new n (n + m) value → window 0 (n + m) new ≡ xs ++ replicate m value
window-append old new n m value xs e w =
    let long : length xs ≡ n = length_is _ n xs e in
    front_is new (n + m) (xs ++ replicate m value) (omega (arith, length-append xs (replicate m value), length-replicate m value))
    (λ j d below.
    ⊎_elim
    (λ less. w.below j less ∙ front-bit old n j xs d e less ∙ sym (get_or_append_left xs (replicate m value) d j (omega arith)))
    (λ past. w.within j past below ∙ sym (get_or-append_right xs (replicate m value) n j d long past ∙ get_or-replicate m (j - n) value d (omega arith)))
    (cases_lt j n))

-- the window that has the truth values too
pub window-appended :
    (old new : List ℕ) (n : ℕ) (values xs : List Bool) → window 0 n old ≡ xs → AreAppended old new n values (length values) →
    window 0 (n + length values) new ≡ xs ++ values
window-appended old new n values xs e appended =
    let long : length xs ≡ n = length_is _ n xs e in
    front_is new (n + length values) (xs ++ values) (omega (arith, length-append xs values))
    (λ j d below.
    ⊎_elim
    (λ less. appended.before j less ∙ front-bit old n j xs d e less ∙ sym (get_or_append_left xs values d j (omega arith)))
    (λ past.
    let place : j ≡ n + (j - n) = omega arith in
    ap (bit_of new) place
    ∙ appended.added (j - n) (omega arith)
    ∙ get_or_default values (j - n) false d (omega arith)
    ∙ sym (get_or-append_right xs values n j d long past))
    (cases_lt j n))

-- the elements of a list, one after the other
first-elements : (xs : List Bool) → first_of (λ i. get_or xs i false) (length xs) ≡ xs
first-elements xs = first_is (λ i. get_or xs i false) (length xs) xs refl (λ i d lt. get_or_default xs i false d lt)

-- words changed one after the other are the bits changed
pub window-changed :
    (h : ℕ → Bool → Bool) (old mid new : List ℕ) (at to n : ℕ) (xs : List Bool) → window 0 n old ≡ xs → IsChanged h old mid 0 at → IsChanged h mid new at to → n ≤ 64 * to →
    window 0 n new ≡ first_of (λ i. h i (get_or xs i false)) (length xs)
window-changed h old mid new at to n xs e first second le =
    first_same (λ i. bit_of new (0 + i)) (λ i. h i (get_or xs i false)) n
    (λ i lt.
    let place : 0 + i ≡ i = omega arith in
    ap (bit_of new) place
    ∙ ⊎_elim
    (λ early. second.below i early ∙ first.within i (omega arith) early)
    (λ late. second.within i late (omega arith) ∙ ap (h i) (first.above i late))
    (cases_lt i (64 * at))
    ∙ ap (h i) (front-bit old n i xs false e lt))
    ∙ ap (first_of (λ i. h i (get_or xs i false))) (sym (length_is (λ i. bit_of old (0 + i)) n xs e))

-- bits joined with the values of f
pub changed-zip2 : (g : Bool → Bool → Bool) (f : ℕ → Bool) (xs : List Bool) → first_of (λ i. g (get_or xs i false) (f i)) (length xs) ≡ zip2 g xs (first_of f (length xs))
changed-zip2 g f xs =
    first-zip2 g (λ i. get_or xs i false) f (length xs) (length xs) xs (first_of f (length xs)) (first-elements xs) refl (length-first f (length xs))

-- bits merged with the values of two
pub changed-zip3 :
    (g : Bool → Bool → Bool → Bool) (f h : ℕ → Bool) (xs : List Bool) →
    first_of (λ i. g (get_or xs i false) (f i) (h i)) (length xs) ≡ zip3 g xs (first_of f (length xs)) (first_of h (length xs))
changed-zip3 g f h xs =
    first-zip3 g (λ i. get_or xs i false) f h (length xs) (length xs) (length xs) xs (first_of f (length xs)) (first_of h (length xs)) (first-elements xs) refl refl (length-first f (length xs)) (length-first h (length xs))
