-- Tests of byte strings, as tests of the rows that they stand for.
use Rattle.std.proofs.Common.{◌≡◌, ◌∙◌, ◌+◌, ◌<◌, ◌≤◌, ℕ, Bool, false, List, [], sym, get_or, length, map, take, drop, ap, ap₂, arith}
use Rattle.std.proofs.lemmas.List.{get_or-map, get_or-take, get_or-drop, length-map, length-take, length-drop}
use Rattle.std.proofs.lemmas.Simd.{get_or-zip2}
use Rattle.std.specs.Simd.Lanes.{zip2}
use Rattle.polars_arrays_flat.specs.Row.{Row, Bytes}
use Rattle.polars_arrays_flat.specs.StoredRows.{byte_slots}
use Rattle.polars_arrays_flat.specs.Validity.{window}
use Rattle.polars_compare_leaves.proofs.JoinedBits.{length-zip2}

-- the test of the row at one place
pub against-at : (test : Row → Bool) (xs : List (List ℕ)) (i : ℕ) → i < length xs → get_or (map test (byte_slots xs)) i false ≡ test (Bytes (get_or xs i []))
against-at test xs i h =
    get_or-map test (byte_slots xs) i (Bytes []) false (omega (arith, length-map xs Bytes)) ∙ ap test (get_or-map Bytes xs i [] (Bytes []) h)

pub against-within : (test : Row → Bool) (xs : List (List ℕ)) (i : ℕ) → i < length (map test (byte_slots xs)) → i < length xs
against-within test xs i h = omega (arith, h, length-map (byte_slots xs) test, length-map xs Bytes)

-- a row of a window
row-at : (a n i : ℕ) (xs : List (List ℕ)) → i < n → a + n ≤ length xs → get_or (window a n (byte_slots xs)) i (Bytes []) ≡ Bytes (get_or xs (a + i) [])
row-at a n i xs h within =
    get_or-take n (drop a (byte_slots xs)) i (Bytes []) h ∙ get_or-drop a (byte_slots xs) i (Bytes []) ∙ get_or-map Bytes xs (a + i) [] (Bytes []) (omega arith)

-- a window of n rows has n
window-length : (a n : ℕ) (rows : List Row) → a + n ≤ length rows → length (take n (drop a rows)) ≡ n
window-length a n rows within = omega (arith, length-drop a rows, length-take n (drop a rows))

slots-window : (a n : ℕ) (xs : List (List ℕ)) → a + n ≤ length xs → length (window a n (byte_slots xs)) ≡ n
slots-window a n xs within = window-length a n (byte_slots xs) (omega (arith, length-map xs Bytes))

-- two windows of n rows are n pairs
pub pairs-length :
    (test : Row → Row → Bool) (a b n : ℕ) (xs ys : List (List ℕ)) → a + n ≤ length xs → b + n ≤ length ys →
    length (zip2 test (window a n (byte_slots xs)) (window b n (byte_slots ys))) ≡ n
pairs-length test a b n xs ys left_in right_in =
    length-zip2 test (window a n (byte_slots xs)) (window b n (byte_slots ys)) (slots-window b n ys right_in ∙ sym (slots-window a n xs left_in))
    ∙ slots-window a n xs left_in

-- so a place among the pairs is one in the windows
pub pair-within :
    (test : Row → Row → Bool) (a b n i : ℕ) (xs ys : List (List ℕ)) → a + n ≤ length xs → b + n ≤ length ys →
    i < length (zip2 test (window a n (byte_slots xs)) (window b n (byte_slots ys))) → i < n
pair-within test a b n i xs ys left_in right_in h = omega (arith, h, pairs-length test a b n xs ys left_in right_in)

-- the test of the rows of two windows at one place
pub pairs-at :
    (test : Row → Row → Bool) (a b n i : ℕ) (xs ys : List (List ℕ)) → i < n → a + n ≤ length xs → b + n ≤ length ys →
    get_or (zip2 test (window a n (byte_slots xs)) (window b n (byte_slots ys))) i false ≡ test (Bytes (get_or xs (a + i) [])) (Bytes (get_or ys (b + i) []))
pairs-at test a b n i xs ys h left_in right_in =
    get_or-zip2 test (window a n (byte_slots xs)) (window b n (byte_slots ys)) i (Bytes []) (Bytes []) false
    (omega (arith, slots-window a n xs left_in)) (omega (arith, slots-window b n ys right_in))
    ∙ ap₂ test (row-at a n i xs h left_in) (row-at b n i ys h right_in)
