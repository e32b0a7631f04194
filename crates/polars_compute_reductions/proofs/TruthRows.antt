-- Rows of truth values, counted and reduced.
use Rattle.std.proofs.Common.{◌≡◌, ◌≤◌, ◌+◌, ◌∙◌, ℕ, suc, Bool, true, false, not, ◌&&◌, cond, eqb, List, [], ◌∷◌, length, map, nat_eq, nat_lt, refl, sym, ap, ap₂, arith, count_by}
use Rattle.std.specs.Prelude.{pos, Option, None, Some, Result, Ok, Err, MatchResult}
use Rattle.std.specs.List.{list_all, list_any}
use Rattle.std.specs.Simd.Lanes.{zip2}
use Rattle.std.proofs.lemmas.Bool.Decides.{nat_tests}
use Rattle.std.proofs.lemmas.List.{length-map}
use Rattle.std.proofs.lemmas.List.Recursion.{is_count_by}
use Rattle.std.proofs.lemmas.List.Sums.{count_by-le-length}
use Rattle.std.proofs.lemmas.Simd.{map-map}
use Rattle.polars_arrays_bits.specs.Errors.{IsMemory}
use Rattle.polars_arrays_bits.specs.declared.error.ComputeError.{ComputeError}
use Rattle.polars_arrays_flat.specs.ArrayRows.{is_null, null_total, number_rows, truth_rows}
use Rattle.polars_arrays_flat.specs.Flat.{Flat}
use Rattle.polars_arrays_flat.specs.Numbers.{Numbers}
use Rattle.polars_arrays_flat.specs.Row.{Row, Null, Int, Truth, Bytes, Rows, Fields, Entry}
use Rattle.polars_arrays_flat.specs.StoredRows.{masked, number_slots, rows_under, truth_slots}
use Rattle.polars_arrays_flat.specs.Validity.{HasBits}
use Rattle.polars_arrays_words.specs.Bits.{first_of}
use Rattle.polars_compute_reductions.specs.Bitwise.{AreCounts, counted, leading_run, place_bits, reduced, trailing_run, truth_count}
use Rattle.polars_compute_reductions.proofs.CountedRows.{under-counted}

-- ---- counts by a test

abbrev passes : {A : Type 0} → (A → Bool) → List A → ℕ
passes p [] = 0
passes p (x ∷ xs) = cond (p x) (1 + passes p xs) (passes p xs)

passes-are : {A : Type 0} (p : A → Bool) (xs : List A) → passes p xs ≡ count_by p xs
passes-are p xs = is_count_by (passes p) p refl (λ x rest. refl) xs

count-cons : {A : Type 0} (p : A → Bool) (x : A) (xs : List A) → count_by p (x ∷ xs) ≡ cond (p x) (1 + count_by p xs) (count_by p xs)
count-cons p x xs = sym (passes-are p (x ∷ xs)) ∙ ap (λ n. cond (p x) (1 + n) n) (passes-are p xs)

-- ---- how many rows are present, and how many of them are true

places-all : (values : List Bool) → place_bits 1 0 (truth_slots values) ≡ values
places-all [] = refl
places-all (v ∷ values) = ap (λ rest. v ∷ rest) (places-all values)

kept-present : (bits values : List Bool) → length bits ≡ length values → count_by (λ b. b) bits ≡ length (place_bits 1 0 (masked bits (truth_slots values)))
kept-present [] [] e = refl
kept-present [] (v ∷ values) e = absurd (omega arith)
kept-present (b ∷ bits) [] e = absurd (omega arith)
kept-present (true ∷ bits) (v ∷ values) e = omega (arith, count-cons (λ (b : Bool). b) true bits, kept-present bits values (omega arith))
kept-present (false ∷ bits) (v ∷ values) e = count-cons (λ b. b) false bits ∙ kept-present bits values (omega arith)

kept-true : (bits values : List Bool) → length bits ≡ length values → count_by (λ b. b) (zip2 ◌&&◌ values bits) ≡ count_by (λ b. b) (place_bits 1 0 (masked bits (truth_slots values)))
kept-true [] [] e = refl
kept-true [] (v ∷ values) e = absurd (omega arith)
kept-true (b ∷ bits) [] e = absurd (omega arith)
kept-true (true ∷ bits) (true ∷ values) e =
    count-cons (λ b. b) true (zip2 ◌&&◌ values bits) ∙ ap (λ n. 1 + n) (kept-true bits values (omega arith)) ∙ sym (count-cons (λ b. b) true (place_bits 1 0 (masked bits (truth_slots values))))
kept-true (true ∷ bits) (false ∷ values) e =
    count-cons (λ b. b) false (zip2 ◌&&◌ values bits) ∙ kept-true bits values (omega arith) ∙ sym (count-cons (λ b. b) false (place_bits 1 0 (masked bits (truth_slots values))))
kept-true (false ∷ bits) (true ∷ values) e = count-cons (λ b. b) false (zip2 ◌&&◌ values bits) ∙ kept-true bits values (omega arith)
kept-true (false ∷ bits) (false ∷ values) e = count-cons (λ b. b) false (zip2 ◌&&◌ values bits) ∙ kept-true bits values (omega arith)

pub present-none : (validity : Option (List Bool)) (values : List Bool) → None ≡ validity → length (place_bits 1 0 (rows_under validity (truth_slots values))) ≡ length values
present-none None values e = ap length (places-all values)
present-none (Some bits) values e = cc

pub present-some : (validity : Option (List Bool)) (values bits : List Bool) → Some bits ≡ validity → HasBits (length (truth_slots values)) validity → count_by (λ b. b) bits ≡ length (place_bits 1 0 (rows_under validity (truth_slots values)))
present-some None values bits e long = cc
present-some (Some bs) values bits e long =
    let same : bits ≡ bs = cc in
    ap (count_by (λ b. b)) same ∙ kept-present bs values (long ∙ length-map values Truth)

pub true-none : (validity : Option (List Bool)) (values : List Bool) → None ≡ validity → count_by (λ b. b) values ≡ count_by (λ b. b) (place_bits 1 0 (rows_under validity (truth_slots values)))
true-none None values e = ap (count_by (λ b. b)) (sym (places-all values))
true-none (Some bits) values e = cc

pub true-some : (validity : Option (List Bool)) (values bits : List Bool) → Some bits ≡ validity → HasBits (length (truth_slots values)) validity → count_by (λ b. b) (zip2 ◌&&◌ values bits) ≡ count_by (λ b. b) (place_bits 1 0 (rows_under validity (truth_slots values)))
true-some None values bits e long = cc
true-some (Some bs) values bits e long =
    let same : bits ≡ bs = cc in
    ap (λ (b : List Bool). count_by (λ x. x) (zip2 ◌&&◌ values b)) same ∙ kept-true bs values (long ∙ length-map values Truth)

-- ---- reductions to one bit

places-and-nulls : (rows : List Row) → length (place_bits 1 0 rows) + null_total rows ≡ length rows
places-and-nulls [] = refl
places-and-nulls (Null ∷ rows) = omega (arith, count-cons is_null Null rows, places-and-nulls rows)
places-and-nulls (Int n ∷ rows) = omega (arith, count-cons is_null (Int n) rows, places-and-nulls rows)
places-and-nulls (Truth b ∷ rows) = omega (arith, count-cons is_null (Truth b) rows, places-and-nulls rows)
places-and-nulls (Bytes x ∷ rows) = omega (arith, count-cons is_null (Bytes x) rows, places-and-nulls rows)
places-and-nulls (Rows x ∷ rows) = omega (arith, count-cons is_null (Rows x) rows, places-and-nulls rows)
places-and-nulls (Fields x ∷ rows) = omega (arith, count-cons is_null (Fields x) rows, places-and-nulls rows)
places-and-nulls (Entry x ∷ rows) = omega (arith, count-cons is_null (Entry x) rows, places-and-nulls rows)

equal_test : (a b : ℕ) → a ≡ b → eqb a b ≡ true
equal_test a b e = grind (arith, nat_tests)

unequal_test : (a b : ℕ) → (a ≡ b → ⊥) → eqb a b ≡ false
unequal_test a b e = grind (arith, nat_tests)

pub reduces_none : (test : List Bool → Bool) (rows : List Row) (present : ℕ) → present ≡ length (place_bits 1 0 rows) → present ≡ 0 → None ≡ reduced test 1 rows
reduces_none test rows present e none =
    sym (ap (λ b. cond b None (Some (first_of (λ i. test (place_bits 1 i rows)) 1)))
    (equal_test (null_total rows) (length rows) (omega (arith, places-and-nulls rows, e, none))))

pub reduces_some : (test : List Bool → Bool) (rows : List Row) (present : ℕ) (answer : Bool) → present ≡ length (place_bits 1 0 rows) → (present ≡ 0 → ⊥) → answer ≡ test (place_bits 1 0 rows) → Some (answer ∷ []) ≡ reduced test 1 rows
reduces_some test rows present answer e some is =
    ap (λ b. Some (b ∷ [])) is
    ∙ sym (ap (λ b. cond b None (Some (first_of (λ i. test (place_bits 1 i rows)) 1)))
    (unequal_test (null_total rows) (length rows) (λ same. some (omega (arith, places-and-nulls rows, e, same)))))

one-more : (m n : ℕ) → nat_eq (1 + m) (suc n) ≡ nat_eq m n
one-more m n = grind (arith, nat_tests)

fewer : (m n : ℕ) → m ≤ n → nat_eq m (suc n) ≡ false
fewer m n h = grind (arith, nat_tests)

pub all-test : (bits : List Bool) → nat_eq (count_by (λ b. b) bits) (length bits) ≡ list_all (λ b. b) bits
all-test [] = refl
all-test (true ∷ bits) =
    ap (λ n. nat_eq n (suc (length bits))) (count-cons (λ b. b) true bits) ∙ one-more (count_by (λ b. b) bits) (length bits) ∙ all-test bits
all-test (false ∷ bits) =
    ap (λ n. nat_eq n (suc (length bits))) (count-cons (λ b. b) false bits)
    ∙ fewer (count_by (λ b. b) bits) (length bits) (count_by-le-length (λ (b : Bool). b) bits)

some-more : (m : ℕ) → nat_lt 0 (1 + m) ≡ true
some-more m = grind (arith, nat_tests)

pub any-test : (bits : List Bool) → nat_lt 0 (count_by (λ b. b) bits) ≡ list_any (λ b. b) bits
any-test [] = refl
any-test (true ∷ bits) = ap (nat_lt 0) (count-cons (λ b. b) true bits) ∙ some-more (count_by (λ b. b) bits)
any-test (false ∷ bits) = ap (nat_lt 0) (count-cons (λ b. b) false bits) ∙ any-test bits

-- ---- counts of one bit

map-same : {A B : Type 0} (f g : A → B) → ((x : A) → f x ≡ g x) → (xs : List A) → map f xs ≡ map g xs
map-same f g same [] = refl
map-same f g same (x ∷ xs) = ap₂ (λ first rest. first ∷ rest) (same x) (map-same f g same xs)

-- a result that means one thing means another
matched : {A E : Type 0} (P Q : A → Type 0) (F : E → Type 0) (r : Result A E) → ((x : A) → P x → Q x) → MatchResult r P F → MatchResult r Q F
matched P Q F (Ok x) to m = to x m
matched P Q F (Err e) to m = m

pub are-counts : (amount : List Bool → ℕ) (ones : Bool) → ((b : Bool) → truth_count ones b ≡ amount (b ∷ [])) → (a : Flat Bool) (r : Result (Numbers ℕ) ComputeError) → MatchResult r (λ counts. number_rows (λ n. pos n) counts ≡ rows_under a.validity (number_slots (λ n. pos n) (map (truth_count ones) a.values))) IsMemory → MatchResult r (AreCounts amount 1 (truth_rows a)) IsMemory
are-counts amount ones agrees a r m =
    matched (λ counts. number_rows (λ n. pos n) counts ≡ rows_under a.validity (number_slots (λ n. pos n) (map (truth_count ones) a.values))) (AreCounts amount 1 (truth_rows a)) IsMemory r
    (λ counts e.
    e
    ∙ ap (rows_under a.validity)
    (map-map (λ n. Int (pos n)) (truth_count ones) a.values
    ∙ map-same (λ b. Int (pos (truth_count ones b))) (λ b. counted amount 1 (Truth b)) (λ b. ap (λ n. Int (pos n)) (agrees b)) a.values
    ∙ sym (map-map (counted amount 1) Truth a.values))
    ∙ under-counted amount 1 a.validity (truth_slots a.values))
    m

pub one_count_ones : (b : Bool) → truth_count true b ≡ count_by (λ x. x) (b ∷ [])
one_count_ones true = refl
one_count_ones false = refl

pub one_count_zeros : (b : Bool) → truth_count false b ≡ count_by not (b ∷ [])
one_count_zeros true = refl
one_count_zeros false = refl

pub one_leading_ones : (b : Bool) → truth_count true b ≡ leading_run (λ x. x) (b ∷ [])
one_leading_ones true = refl
one_leading_ones false = refl

pub one_leading_zeros : (b : Bool) → truth_count false b ≡ leading_run not (b ∷ [])
one_leading_zeros true = refl
one_leading_zeros false = refl

pub one_trailing_ones : (b : Bool) → truth_count true b ≡ trailing_run (λ x. x) (b ∷ [])
one_trailing_ones true = refl
one_trailing_ones false = refl

pub one_trailing_zeros : (b : Bool) → truth_count false b ≡ trailing_run not (b ∷ [])
one_trailing_zeros true = refl
one_trailing_zeros false = refl
