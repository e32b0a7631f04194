-- What rows of truth values hold, as counts tell it.
use Rattle.std.proofs.Common.{◌≡◌, ◌<◌, ◌≤◌, ◌+◌, ◌-◌, ◌∙◌, ◌&&◌, ◌||◌, ℕ, Bool, true, false, cond, ltb, List, [], ◌∷◌, length, pos, count_by, refl, sym, ap, ap₂, arith}
use Rattle.std.specs.Prelude.{Option, Some, None}
use Rattle.std.specs.List.{list_any}
use Rattle.std.specs.Simd.Lanes.{zip2}
use Rattle.std.proofs.lemmas.Bool.Decides.{Decides-ltb, same_from_decides}
use Rattle.polars_arrays_flat.specs.ArrayRows.{is_null}
use Rattle.polars_arrays_flat.specs.Row.{Row, Null, Truth}
use Rattle.polars_arrays_flat.specs.StoredRows.{kept, masked, rows_under, truth_slots}
use Rattle.polars_compute_slots.specs.State.{are_within, holds, is_value, is_within, truth_numbers}
use Rattle.polars_compute_slots.proofs.Fullness.{tally, tally-is}

-- ---- counts and tests

more : (b : Bool) (t : ℕ) (a : Bool) → ltb 0 t ≡ a → ltb 0 (cond b (1 + t) t) ≡ (b || a)
more true t a e = (Decides-ltb 0 (1 + t)).1 (omega arith)
more false t a e = e

any-tally : {A : Type 0} (p : A → Bool) (xs : List A) → ltb 0 (tally p xs) ≡ list_any p xs
any-tally p [] = refl
any-tally p (x ∷ xs) = more (p x) (tally p xs) (list_any p xs) (any-tally p xs)

-- some element passes a test where more than none are counted
pub any-counted : {A : Type 0} (p : A → Bool) (xs : List A) (n : ℕ) → n ≡ count_by p xs → ltb 0 n ≡ list_any p xs
any-counted p xs n is = ap (ltb 0) (is ∙ sym (tally-is p xs)) ∙ any-tally p xs

-- ---- rows of truth values

-- each row is null, true or false
Parted : List Row → Type 0
Parted rows = length rows ≡ tally is_null rows + (tally (is_value (pos 1)) rows + tally (is_value (pos 0)) rows)

parted-more : (b : Bool) (rows : List Row) → Parted rows → Parted (Truth b ∷ rows)
unfolding Parted
parted-more true rows e = omega arith
parted-more false rows e = omega arith

parted-null : (rows : List Row) → Parted rows → Parted (Null ∷ rows)
unfolding Parted
parted-null rows e = omega arith

parted-kept : (bit b : Bool) (rows : List Row) → Parted rows → Parted (kept bit (Truth b) ∷ rows)
parted-kept true b rows e = parted-more b rows e
parted-kept false b rows e = parted-null rows e

parted-none : Parted []
unfolding Parted
parted-none = refl

parted-masked : (bits values : List Bool) → Parted (masked bits (truth_slots values))
parted-masked [] values = parted-none
parted-masked (bit ∷ bits) [] = parted-none
parted-masked (bit ∷ bits) (b ∷ values) = parted-kept bit b (masked bits (truth_slots values)) (parted-masked bits values)

parted-stored : (values : List Bool) → Parted (truth_slots values)
parted-stored [] = parted-none
parted-stored (b ∷ values) = parted-more b (truth_slots values) (parted-stored values)

parted : (validity : Option (List Bool)) (values : List Bool) → Parted (rows_under validity (truth_slots values))
parted None values = parted-stored values
parted (Some bits) values = parted-masked bits values

-- some row is false where fewer rows are true than present
pub some-false : (validity : Option (List Bool)) (values : List Bool) (len nulls trues : ℕ) → let rows = rows_under validity (truth_slots values) in
    length rows ≡ len → nulls ≡ count_by is_null rows → trues ≡ count_by (is_value (pos 1)) rows → ltb trues (len - nulls) ≡ holds rows (pos 0)
unfolding Parted
some-false validity values len nulls trues long is_nulls is_trues =
    let rows = rows_under validity (truth_slots values) in
    let parts : length rows ≡ tally is_null rows + (tally (is_value (pos 1)) rows + tally (is_value (pos 0)) rows) = parted validity values in
    let null_part = tally-is is_null rows in
    let true_part = tally-is (is_value (pos 1)) rows in
    same_from_decides (ltb trues (len - nulls)) (ltb 0 (tally (is_value (pos 0)) rows)) (λ e. (let lt = (Decides-ltb trues (len - nulls)).0 e in omega arith), λ (some : 0 < tally (is_value (pos 0)) rows). (Decides-ltb trues (len - nulls)).1 (omega arith)) (Decides-ltb 0 (tally (is_value (pos 0)) rows))
    ∙ any-tally (is_value (pos 0)) rows

pub nulls-within : (validity : Option (List Bool)) (values : List Bool) (len nulls : ℕ) → let rows = rows_under validity (truth_slots values) in
    length rows ≡ len → nulls ≡ count_by is_null rows → nulls ≤ len
unfolding Parted
nulls-within validity values len nulls long is_nulls =
    let rows = rows_under validity (truth_slots values) in
    let parts : length rows ≡ tally is_null rows + (tally (is_value (pos 1)) rows + tally (is_value (pos 0)) rows) = parted validity values in
    let null_part = tally-is is_null rows in
    omega arith

-- ---- true rows

true-row : (b : Bool) → is_value (pos 1) (Truth b) ≡ b
true-row true = refl
true-row false = refl

true-kept : (bit b : Bool) → is_value (pos 1) (kept bit (Truth b)) ≡ (b && bit)
true-kept true true = refl
true-kept true false = refl
true-kept false true = refl
true-kept false false = refl

trues-stored : (values : List Bool) → tally (λ b. b) values ≡ tally (is_value (pos 1)) (truth_slots values)
trues-stored [] = refl
trues-stored (b ∷ values) = ap₂ (λ (c : Bool) (t : ℕ). cond c (1 + t) t) (sym (true-row b)) (trues-stored values)

trues-masked : (bits values : List Bool) → tally (λ b. b) (zip2 ◌&&◌ values bits) ≡ tally (is_value (pos 1)) (masked bits (truth_slots values))
trues-masked [] [] = refl
trues-masked [] (b ∷ values) = refl
trues-masked (bit ∷ bits) [] = refl
trues-masked (bit ∷ bits) (b ∷ values) = ap₂ (λ (c : Bool) (t : ℕ). cond c (1 + t) t) (sym (true-kept bit b)) (trues-masked bits values)

pub count-stored : (values : List Bool) → count_by (λ b. b) values ≡ count_by (is_value (pos 1)) (truth_slots values)
count-stored values = sym (tally-is (λ b. b) values) ∙ trues-stored values ∙ tally-is (is_value (pos 1)) (truth_slots values)

pub count-masked : (bits values : List Bool) → count_by (λ b. b) (zip2 ◌&&◌ values bits) ≡ count_by (is_value (pos 1)) (masked bits (truth_slots values))
count-masked bits values = sym (tally-is (λ b. b) (zip2 ◌&&◌ values bits)) ∙ trues-masked bits values ∙ tally-is (is_value (pos 1)) (masked bits (truth_slots values))

-- ---- all truth values lie in the range

kept-within : (bit b : Bool) → is_within truth_numbers (kept bit (Truth b)) ≡ true
kept-within true true = refl
kept-within true false = refl
kept-within false b = refl

all-masked : (bits values : List Bool) → are_within truth_numbers (masked bits (truth_slots values)) ≡ true
all-masked [] values = refl
all-masked (bit ∷ bits) [] = refl
all-masked (bit ∷ bits) (b ∷ values) = ap₂ ◌&&◌ (kept-within bit b) (all-masked bits values)

all-stored : (values : List Bool) → are_within truth_numbers (truth_slots values) ≡ true
all-stored [] = refl
all-stored (b ∷ values) = ap₂ ◌&&◌ (kept-within true b) (all-stored values)

pub all-truths : (validity : Option (List Bool)) (values : List Bool) → are_within truth_numbers (rows_under validity (truth_slots values)) ≡ true
all-truths None values = all-stored values
all-truths (Some bits) values = all-masked bits values
