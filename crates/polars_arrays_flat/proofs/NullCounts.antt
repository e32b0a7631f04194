-- How many rows are null, by the bits of a validity.
use Rattle.std.proofs.Common.{◌≡◌, ℕ, ℤ, zero, suc, ◌+◌, Bool, true, false, not, cond, List, [], ◌∷◌, length, map, replicate, count_by, refl, ap, sym, ◌∙◌, arith}
use Rattle.std.specs.Prelude.{Option, Some, None}
use Rattle.std.proofs.lemmas.List.Recursion.{is_count_by}
use Rattle.polars_arrays_flat.specs.ArrayRows.{is_null, null_total}
use Rattle.polars_arrays_flat.specs.Row.{Row, Null, Int, Truth, Bytes}
use Rattle.polars_arrays_flat.specs.StoredRows.{masked, rows_under, number_slots, truth_slots, byte_slots}
use Rattle.polars_arrays_flat.specs.Validity.{HasBits, masked_count}

-- how many elements pass a test, by recursion
tally : {A : Type 0} → (A → Bool) → List A → ℕ
tally test [] = 0
tally test (x ∷ xs) = cond (test x) (1 + tally test xs) (tally test xs)

tally-is : {A : Type 0} (test : A → Bool) (xs : List A) → tally test xs ≡ count_by test xs
unfolding tally
tally-is test xs = is_count_by (tally test) test refl (λ x rest. refl) xs

stored-nulls : {A : Type 0} (f : A → Row) → ((x : A) → is_null (f x) ≡ false) → (xs : List A) → tally is_null (map f xs) ≡ 0
unfolding tally
stored-nulls f present [] = refl
stored-nulls f present (x ∷ xs) = rw (present x) (stored-nulls f present xs)

masked-nulls : {A : Type 0} (f : A → Row) → ((x : A) → is_null (f x) ≡ false) → (bits : List Bool) (xs : List A) → length bits ≡ length xs → tally is_null (masked bits (map f xs)) ≡ tally not bits
unfolding tally
masked-nulls f present [] xs same_length = refl
masked-nulls f present (bit ∷ bits) [] same_length = absurd (omega arith)
masked-nulls f present (true ∷ bits) (x ∷ xs) same_length =
    rw (present x) (masked-nulls f present bits xs (omega arith))
masked-nulls f present (false ∷ bits) (x ∷ xs) same_length =
    ap (λ n. 1 + n) (masked-nulls f present bits xs (omega arith))

-- where no stored row is Null, the nulls are the masked rows
nulls-masked : {A : Type 0} (f : A → Row) → ((x : A) → is_null (f x) ≡ false) → (validity : Option (List Bool)) (xs : List A) → HasBits (length xs) validity → masked_count validity ≡ null_total (rows_under validity (map f xs))
nulls-masked f present None xs has_bits =
    sym (stored-nulls f present xs) ∙ tally-is is_null (map f xs)
nulls-masked f present (Some bits) xs has_bits =
    sym (tally-is not bits) ∙ sym (masked-nulls f present bits xs has_bits) ∙ tally-is is_null (masked bits (map f xs))

pub number_rows-nulls : {A : Type 0} (value : A → ℤ) (validity : Option (List Bool)) (xs : List A) → HasBits (length xs) validity → masked_count validity ≡ null_total (rows_under validity (number_slots value xs))
number_rows-nulls value validity xs has_bits =
    nulls-masked (λ x. Int (value x)) (λ x. refl) validity xs has_bits

pub truth_rows-nulls : (validity : Option (List Bool)) (xs : List Bool) → HasBits (length xs) validity → masked_count validity ≡ null_total (rows_under validity (truth_slots xs))
truth_rows-nulls validity xs has_bits = nulls-masked Truth (λ x. refl) validity xs has_bits

pub byte_rows-nulls : (validity : Option (List Bool)) (xs : List (List ℕ)) → HasBits (length xs) validity → masked_count validity ≡ null_total (rows_under validity (byte_slots xs))
byte_rows-nulls validity xs has_bits = nulls-masked Bytes (λ x. refl) validity xs has_bits

all-nulls : (n : ℕ) → tally is_null (replicate n Null) ≡ n
unfolding tally
all-nulls zero = refl
all-nulls (suc n) = omega (arith, all-nulls n)

pub null_rows-nulls : (n : ℕ) → n ≡ null_total (replicate n Null)
null_rows-nulls n = sym (all-nulls n) ∙ tally-is is_null (replicate n Null)

pub ruleset nulls_counted = (number_rows-nulls, truth_rows-nulls, byte_rows-nulls, null_rows-nulls)
