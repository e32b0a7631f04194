-- Offsets less a base.
use Rattle.std.proofs.Common.{◌≡◌, ◌≢◌, ℕ, zero, suc, ◌+◌, ◌-◌, ◌*◌, ◌^◌, ◌≤◌, ◌<◌, ◌<ℤ◌, ℤ, pos, negsuc, Bool, true, false, List, [], ◌∷◌, ◌++◌, length, get_or, map, take, refl, sym, ap, ◌∙◌, arith}
use Rattle.std.proofs.Math.Seq.{take-suc}
use Rattle.std.proofs.lemmas.Bool.{le-leb, lt-leb}
use Rattle.std.proofs.lemmas.List.{get_or-map, length-append, length-map, map-append, take_all}
use Rattle.std.proofs.lemmas.List.Elements.{All-get_or}
use Rattle.std.specs.List.{All}
use Rattle.std.specs.Prelude.{Option, Some, None, if◌then◌else◌, nat_le}
use Rattle.polars_arrays_bytes.specs.OffsetStrings.{places}
use Rattle.polars_arrays_numbers.specs.Naturals.{natural_of}
use Rattle.arrow_parts.specs.Lent.{place_from, places_from, wide_numbers}

chosen : (b : Bool) (x y : Option ℕ) → b ≡ true → (if b then x else y) ≡ x
chosen true x y is = refl
chosen false x y is = cc

-- a place that is not before the base
pub place_less : (base place : ℕ) (offset : Option ℕ) (end : ℤ) → offset ≡ Some place → base ≤ place → end ≡ pos (place - base) → natural_of end ≡ place_from base offset
place_less base place offset end is le less =
    ap natural_of less
    ∙ sym (chosen (nat_le base place) (Some (place - base)) None (le-leb base place le))
    ∙ sym (ap (place_from base) is)

-- one offset more
pub ends-more : {A : Type 0} (value : A → ℤ) (base : ℕ) (offsets : List A) (i : ℕ) (d : A) (ends new : List ℤ) (end : ℤ) → i < length offsets → places (λ x. x) ends ≡ places_from base value (take i offsets) → new ≡ ends ++ end ∷ [] → natural_of end ≡ place_from base (natural_of (value (get_or offsets i d))) → places (λ x. x) new ≡ places_from base value (take (i + 1) offsets)
ends-more value base offsets i d ends new end low was is one =
    let at : i + 1 ≡ suc i = omega arith in
    let more : take (i + 1) offsets ≡ take i offsets ++ get_or offsets i d ∷ [] = ap (λ n. take n offsets) at ∙ take-suc offsets i d low in
    ap (places (λ x. x)) is
    ∙ map-append natural_of ends (end ∷ [])
    ∙ ap (λ xs. xs ++ natural_of end ∷ []) was
    ∙ ap (λ x. places_from base value (take i offsets) ++ x ∷ []) one
    ∙ sym (ap (places_from base value) more ∙ ap (map (place_from base)) (map-append (λ x. natural_of (value x)) (take i offsets) (get_or offsets i d ∷ [])) ∙ map-append (place_from base) (places value (take i offsets)) (natural_of (value (get_or offsets i d)) ∷ []))

pub one-longer : (ends new : List ℤ) (end : ℤ) (i : ℕ) → new ≡ ends ++ end ∷ [] → length ends ≡ i → length new ≡ i + 1
one-longer ends new end i more was = ap length more ∙ length-append ends (end ∷ []) ∙ ap (λ n. n + 1) was

-- a number of two words more
pub wide-more : (words : List ℕ) (i : ℕ) → 2 * i + 1 < length words → wide_numbers (take (2 * (i + 1)) words) ≡ wide_numbers (take (2 * i) words) ++ (get_or words (2 * i) 0 + 2 ^ 64 * get_or words (2 * i + 1) 0) ∷ []
wide-more [] i low = absurd (omega arith)
wide-more (a ∷ []) i low = absurd (omega arith)
wide-more (a ∷ b ∷ words) zero low = refl
wide-more (a ∷ b ∷ words) (suc i) low =
    let next : 2 * (suc i + 1) ≡ suc (suc (2 * (i + 1))) = omega arith in
    let here : 2 * suc i ≡ suc (suc (2 * i)) = omega arith in
    let there : 2 * suc i + 1 ≡ suc (suc (2 * i + 1)) = omega arith in
    ap (λ n. wide_numbers (take n (a ∷ b ∷ words))) next
    ∙ ap (λ xs. (a + 2 ^ 64 * b) ∷ xs) (wide-more words i (omega arith))
    ∙ ap (λ n. wide_numbers (take n (a ∷ b ∷ words)) ++ (get_or words (2 * i) 0 + 2 ^ 64 * get_or words (2 * i + 1) 0) ∷ []) (sym here)
    ∙ ap (λ n. wide_numbers (take (2 * suc i) (a ∷ b ∷ words)) ++ (get_or (a ∷ b ∷ words) n 0 + 2 ^ 64 * get_or words (2 * i + 1) 0) ∷ []) (sym here)
    ∙ ap (λ n. wide_numbers (take (2 * suc i) (a ∷ b ∷ words)) ++ (get_or (a ∷ b ∷ words) (2 * suc i) 0 + 2 ^ 64 * get_or (a ∷ b ∷ words) n 0) ∷ []) (sym there)

-- a last word alone makes no number
pub wide-all : (words : List ℕ) (n : ℕ) → length words ≤ 2 * n + 1 → wide_numbers (take (2 * n) words) ≡ wide_numbers words
wide-all [] zero le = refl
wide-all [] (suc n) le = ap wide_numbers (take_all (2 * suc n) [] (omega arith))
wide-all (a ∷ []) zero le = refl
wide-all (a ∷ []) (suc n) le = ap wide_numbers (take_all (2 * suc n) (a ∷ []) (omega arith))
wide-all (a ∷ b ∷ words) zero le = absurd (omega arith)
wide-all (a ∷ b ∷ words) (suc n) le =
    let here : 2 * suc n ≡ suc (suc (2 * n)) = omega arith in
    ap (λ k. wide_numbers (take k (a ∷ b ∷ words))) here ∙ ap (λ xs. (a + 2 ^ 64 * b) ∷ xs) (wide-all words n (omega arith))

pub map-more : {A B : Type 0} (f : A → B) (xs : List A) (i : ℕ) (d : A) → i < length xs → map f (take (i + 1) xs) ≡ map f (take i xs) ++ f (get_or xs i d) ∷ []
map-more f xs i d low =
    let at : i + 1 ≡ suc i = omega arith in
    ap (λ n. map f (take n xs)) at ∙ ap (map f) (take-suc xs i d low) ∙ map-append f (take i xs) (get_or xs i d ∷ [])

-- an offset that is not lent
pub no-place : (base : ℕ) (offset : Option ℕ) → offset ≡ None → place_from base offset ≡ None
no-place base None is = refl
no-place base (Some place) is = cc

not-chosen : (b : Bool) (x y : Option ℕ) → b ≡ false → (if b then x else y) ≡ y
not-chosen true x y is = cc
not-chosen false x y is = refl

pub place_before : (base place : ℕ) (offset : Option ℕ) → offset ≡ Some place → place < base → place_from base offset ≡ None
place_before base place offset is before =
    ap (place_from base) is ∙ not-chosen (nat_le base place) (Some (place - base)) None (lt-leb base place before)

-- an offset that is no place makes the list one that is not
pub unplaced : {A : Type 0} (value : A → ℤ) (base : ℕ) (offsets : List A) (i : ℕ) (d : A) → i < length offsets → place_from base (natural_of (value (get_or offsets i d))) ≡ None → ¬ (All (λ place. place ≢ None) (places_from base value offsets))
unplaced value base offsets i d low none all =
    let long : length (places_from base value offsets) ≡ length offsets = length-map (places value offsets) (place_from base) ∙ length-map offsets (λ x. natural_of (value x)) in
    let at : get_or (places_from base value offsets) i None ≡ place_from base (natural_of (value (get_or offsets i d))) = get_or-map (place_from base) (places value offsets) i None None (omega (arith, low, length-map offsets (λ x. natural_of (value x)))) ∙ ap (place_from base) (get_or-map (λ x. natural_of (value x)) offsets i d None low) in
    All-get_or (λ place. place ≢ None) (places_from base value offsets) i None (omega (arith, low, long)) all (at ∙ none)

pub ruleset ends = (place_less, no-place, place_before)
