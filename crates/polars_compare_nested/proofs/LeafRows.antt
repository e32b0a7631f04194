-- The bits of a test of stored leaves, place by place, for the rows that are present.
use Rattle.std.proofs.Common.{◌≡◌, ◌<◌, ◌≤◌, ◌+◌, ◌∙◌, ℕ, ℤ, zero, suc, Bool, true, false, IsTrue, List, [], ◌∷◌, Option, Some, None, length, map, drop, MatchResult, refl, sym, ap, arith, slice_get, slice_index_or}
use Rattle.std.specs.Prelude.{Result}
use Rattle.std.specs.Bool.{beq}
use Rattle.std.specs.Ordering.{int_eq}
use Rattle.std.specs.Simd.Lanes.{zip2}
use Rattle.std.specs.Str.{bytes_eq}
use Rattle.std.proofs.lemmas.Result.{MatchResult-weaker}
use Rattle.std.proofs.lemmas.Simd.{get_or-zip2}
use Rattle.std.proofs.lemmas.List.{get_or-drop, get_or-map, get_or-take, length-drop, length-map, length-take}
use Rattle.polars_arrays_bits.specs.Errors.{IsMemory}
use Rattle.polars_arrays_bits.specs.declared.error.ComputeError.{ComputeError}
use Rattle.polars_arrays_flat.specs.ArrayRows.{number_rows, truth_rows}
use Rattle.polars_arrays_flat.specs.Flat.{Flat}
use Rattle.polars_arrays_flat.specs.Numbers.{Numbers}
use Rattle.polars_arrays_flat.specs.Row.{Row, Null, Int, Truth, Bytes, Rows, Fields, Entry}
use Rattle.polars_arrays_flat.specs.StoredRows.{masked, rows_under, number_slots, truth_slots, byte_slots}
use Rattle.polars_arrays_flat.specs.StoredRows.{row as row_at}
use Rattle.polars_arrays_flat.specs.Validity.{is_present, window}
use Rattle.polars_compare_leaves.specs.Sameness.{same_leaf, same_row}
use Rattle.polars_compare_nested.specs.Bits.{PresentBit, PresentBits}
use Rattle.polars_compare_leaves.specs.Pairs.{ComparesPairs}

present-masked : (bits : List Bool) (xs : List Row) (i : ℕ) → IsTrue (slice_index_or bits i false) → row_at (masked bits xs) i ≡ row_at xs i
present-masked [] xs i h = cc
present-masked (b ∷ bits) [] i h = refl
present-masked (true ∷ bits) (x ∷ xs) zero h = refl
present-masked (false ∷ bits) (x ∷ xs) zero h = cc
present-masked (b ∷ bits) (x ∷ xs) (suc i) h = present-masked bits xs i h

-- a row that is present is the stored one
present-row : (v : Option (List Bool)) (xs : List Row) (i : ℕ) → IsTrue (is_present v i) → row_at (rows_under v xs) i ≡ row_at xs i
present-row None xs i h = refl
present-row (Some bits) xs i h = present-masked bits xs i h

at-window : (a n : ℕ) (xs : List Row) (i : ℕ) → i < n → row_at (window a n xs) i ≡ row_at xs (a + i)
at-window a n xs i lt = get_or-take n (drop a xs) i Null lt ∙ get_or-drop a xs i Null

length-window : (a n : ℕ) (xs : List Row) → a + n ≤ length xs → length (window a n xs) ≡ n
length-window a n xs within = omega (arith, length-take n (drop a xs), length-drop a xs, within)

length-zip2 : {A B C : Type 0} (f : A → B → C) (xs : List A) (ys : List B) → length ys ≡ length xs → length (zip2 f xs ys) ≡ length xs
length-zip2 f [] ys e = refl
length-zip2 f (x ∷ xs) [] e = absurd (omega arith)
length-zip2 f (x ∷ xs) (y ∷ ys) e = ap suc (length-zip2 f xs ys (omega arith))

-- stored rows for which sameness is that of leaves
abbrev OfLeaves : List Row → Type 0
OfLeaves xs = (i : ℕ) → i < length xs → (y : Row) → same_row (row_at xs i) y ≡ same_leaf (row_at xs i) y

same-int : (m : ℤ) (y : Row) → same_row (Int m) y ≡ same_leaf (Int m) y
same-int m Null = refl
same-int m (Int n) = refl
same-int m (Truth b) = refl
same-int m (Bytes ys) = refl
same-int m (Rows ys) = refl
same-int m (Fields ys) = refl
same-int m (Entry y) = refl

same-truth : (a : Bool) (y : Row) → same_row (Truth a) y ≡ same_leaf (Truth a) y
same-truth a Null = refl
same-truth a (Int n) = refl
same-truth a (Truth b) = refl
same-truth a (Bytes ys) = refl
same-truth a (Rows ys) = refl
same-truth a (Fields ys) = refl
same-truth a (Entry y) = refl

same-bytes : (xs : List ℕ) (y : Row) → same_row (Bytes xs) y ≡ same_leaf (Bytes xs) y
same-bytes xs Null = refl
same-bytes xs (Int n) = refl
same-bytes xs (Truth b) = refl
same-bytes xs (Bytes ys) = refl
same-bytes xs (Rows ys) = refl
same-bytes xs (Fields ys) = refl
same-bytes xs (Entry y) = refl

of_leaves : {A : Type 0} (f : A → Row) (zs : List A) → ((z : A) (y : Row) → same_row (f z) y ≡ same_leaf (f z) y) → OfLeaves (map f zs)
of_leaves f [] leaf i lt y = absurd (omega arith)
of_leaves f (z ∷ zs) leaf zero lt y = leaf z y
of_leaves f (z ∷ zs) leaf (suc i) lt y = of_leaves f zs leaf i (omega arith) y

-- a test of two windows of stored rows
window-bits :
    (l r : Option (List Bool)) (xs ys : List Row) (a b n : ℕ) (bits : List Bool) → OfLeaves xs → a + n ≤ length xs → b + n ≤ length ys
    → bits ≡ zip2 same_row (window a n xs) (window b n ys) → PresentBits same_leaf (row_at (rows_under l xs)) l a (row_at (rows_under r ys)) r b n bits
window-bits l r xs ys a b n bits leaves left_in right_in e =
    let left_long = length-window a n xs left_in in
    let right_long = length-window b n ys right_in in
    record {
      size = ap (λ (all : List Bool). length all) e ∙ length-zip2 same_row (window a n xs) (window b n ys) (right_long ∙ sym left_long) ∙ left_long;
      at_present = λ i lt here.
          let bit : slice_index_or bits i false ≡ same_row (row_at (window a n xs) i) (row_at (window b n ys) i) = rw e (get_or-zip2 same_row (window a n xs) (window b n ys) i Null Null false (omega (arith, lt, left_long)) (omega (arith, left_long, right_long))) in
          rw (present-row l xs (a + i) here.0, present-row r ys (b + i) here.1)
          (bit ∙ rw (at-window a n xs i lt, at-window b n ys i lt) (leaves (a + i) (omega (arith, lt, left_in)) (row_at ys (b + i))));
    }

pub number-bits :
    {A : Type 0} (value : A → ℤ) (l r : Numbers A) (a b n : ℕ) (bits : List Bool) → a + n ≤ length l.values → b + n ≤ length r.values
    → bits ≡ zip2 same_row (window a n (number_slots value l.values)) (window b n (number_slots value r.values))
    → PresentBits same_leaf (row_at (number_rows value l)) l.validity a (row_at (number_rows value r)) r.validity b n bits
number-bits value l r a b n bits left_in right_in =
    window-bits l.validity r.validity (number_slots value l.values) (number_slots value r.values) a b n bits
    (of_leaves (λ x. Int (value x)) l.values (λ x. same-int (value x)))
    (omega (arith, left_in, length-map l.values (λ x. Int (value x))))
    (omega (arith, right_in, length-map r.values (λ x. Int (value x))))

pub truth-bits :
    (l r : Flat Bool) (a b n : ℕ) (bits : List Bool) → a + n ≤ length l.values → b + n ≤ length r.values
    → bits ≡ zip2 same_row (window a n (truth_slots l.values)) (window b n (truth_slots r.values))
    → PresentBits same_leaf (row_at (truth_rows l)) l.validity a (row_at (truth_rows r)) r.validity b n bits
truth-bits l r a b n bits left_in right_in =
    window-bits l.validity r.validity (truth_slots l.values) (truth_slots r.values) a b n bits
    (of_leaves Truth l.values same-truth)
    (omega (arith, left_in, length-map l.values Truth))
    (omega (arith, right_in, length-map r.values Truth))

-- the same, of the results of calls
pub number-leaves :
    {A : Type 0} (value : A → ℤ) (l r : Numbers A) (a b n : ℕ) (result : Result (List Bool) ComputeError) → a + n ≤ length l.values → b + n ≤ length r.values
    → MatchResult result (λ bits. bits ≡ zip2 same_row (window a n (number_slots value l.values)) (window b n (number_slots value r.values))) IsMemory
    → MatchResult result (PresentBits same_leaf (row_at (number_rows value l)) l.validity a (row_at (number_rows value r)) r.validity b n) IsMemory
number-leaves value l r a b n result left_in right_in told =
    MatchResult-weaker result told (λ bits e. number-bits value l r a b n bits left_in right_in e) (λ error m. m)

pub truth-leaves :
    (l r : Flat Bool) (a b n : ℕ) (result : Result (List Bool) ComputeError) → a + n ≤ length l.values → b + n ≤ length r.values
    → MatchResult result (λ bits. bits ≡ zip2 same_row (window a n (truth_slots l.values)) (window b n (truth_slots r.values))) IsMemory
    → MatchResult result (PresentBits same_leaf (row_at (truth_rows l)) l.validity a (row_at (truth_rows r)) r.validity b n) IsMemory
truth-leaves l r a b n result left_in right_in told =
    MatchResult-weaker result told (λ bits e. truth-bits l r a b n bits left_in right_in e) (λ error m. m)

pub byte-bits :
    (l r : Option (List Bool)) (xs ys : List (List ℕ)) (a b n : ℕ) (bits : List Bool) → a + n ≤ length xs → b + n ≤ length ys
    → bits ≡ zip2 same_row (window a n (byte_slots xs)) (window b n (byte_slots ys))
    → PresentBits same_leaf (row_at (rows_under l (byte_slots xs))) l a (row_at (rows_under r (byte_slots ys))) r b n bits
byte-bits l r xs ys a b n bits left_in right_in =
    window-bits l r (byte_slots xs) (byte_slots ys) a b n bits
    (of_leaves Bytes xs same-bytes)
    (omega (arith, left_in, length-map xs Bytes))
    (omega (arith, right_in, length-map ys Bytes))

-- a stored byte string that is present
byte-row : (v : Option (List Bool)) (xs : List (List ℕ)) (i : ℕ) → IsTrue (is_present v i) → i < length xs → row_at (rows_under v (byte_slots xs)) i ≡ Bytes (slice_index_or xs i [])
byte-row v xs i here lt = present-row v (byte_slots xs) i here ∙ get_or-map Bytes xs i [] Null lt

-- a test of pairs of byte strings
pub pair-bits :
    (l r : Option (List Bool)) (xs ys : List (List ℕ)) (a b n : ℕ) (bits : List Bool) → a + n ≤ length xs → b + n ≤ length ys
    → ComparesPairs same_row xs ys a b n bits
    → PresentBits same_leaf (row_at (rows_under l (byte_slots xs))) l a (row_at (rows_under r (byte_slots ys))) r b n bits
pair-bits l r xs ys a b n bits left_in right_in pairs = record {
  size = pairs.size;
  at_present = λ i lt here.
      rw (byte-row l xs (a + i) here.0 (omega (arith, lt, left_in)), byte-row r ys (b + i) here.1 (omega (arith, lt, right_in)))
      (pairs.at_each i lt);
}

-- the row of a stored element
stored-at : {A : Type 0} (f : A → Row) (xs : List A) (i : ℕ) (x : A) → slice_get xs i ≡ Some x → row_at (map f xs) i ≡ f x
stored-at f [] i x e = cc
stored-at f (y ∷ xs) zero x e = cc
stored-at f (y ∷ xs) (suc i) x e = stored-at f xs i x e

-- a test of two stored rows
stored-bit :
    (l r : Option (List Bool)) (xs ys : List Row) (a b : ℕ) (bit : Bool) → bit ≡ same_leaf (row_at xs a) (row_at ys b)
    → PresentBit same_leaf (row_at (rows_under l xs)) l a (row_at (rows_under r ys)) r b bit
stored-bit l r xs ys a b bit e = record {
  at_present = λ here. rw (present-row l xs a here.0, present-row r ys b here.1) e;
}

pub byte-bit :
    (l r : Option (List Bool)) (xs ys : List (List ℕ)) (a b : ℕ) (bit : Bool) → a < length xs → b < length ys
    → bit ≡ bytes_eq (slice_index_or xs a []) (slice_index_or ys b [])
    → PresentBit same_leaf (row_at (rows_under l (byte_slots xs))) l a (row_at (rows_under r (byte_slots ys))) r b bit
byte-bit l r xs ys a b bit left_in right_in e =
    stored-bit l r (byte_slots xs) (byte_slots ys) a b bit
    (rw (get_or-map Bytes xs a [] Null left_in, get_or-map Bytes ys b [] Null right_in) e)

-- the row of an element that was read by its place
read-at : {A : Type 0} (f : A → Row) (xs : List A) (i : ℕ) (x : A) → i < length xs → x ≡ slice_index_or xs i x → row_at (map f xs) i ≡ f x
read-at f xs i x low e = get_or-map f xs i x Null low ∙ ap f (sym e)

pub number-bit :
    {A : Type 0} (value : A → ℤ) (l r : Numbers A) (a b : ℕ) (x y : A) (bit : Bool) → a < length l.values → b < length r.values
    → x ≡ slice_index_or l.values a x → y ≡ slice_index_or r.values b y → bit ≡ int_eq (value x) (value y)
    → PresentBit same_leaf (row_at (number_rows value l)) l.validity a (row_at (number_rows value r)) r.validity b bit
number-bit value l r a b x y bit left_in right_in here there e =
    stored-bit l.validity r.validity (number_slots value l.values) (number_slots value r.values) a b bit
    (rw (read-at (λ x. Int (value x)) l.values a x left_in here, read-at (λ x. Int (value x)) r.values b y right_in there) e)

pub truth-bit :
    (l r : Flat Bool) (a b : ℕ) (x y bit : Bool) → slice_get l.values a ≡ Some x → slice_get r.values b ≡ Some y
    → bit ≡ beq x y
    → PresentBit same_leaf (row_at (truth_rows l)) l.validity a (row_at (truth_rows r)) r.validity b bit
truth-bit l r a b x y bit here there e =
    stored-bit l.validity r.validity (truth_slots l.values) (truth_slots r.values) a b bit
    (rw (stored-at Truth l.values a x here, stored-at Truth r.values b y there) e)
