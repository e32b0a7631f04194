-- Byte strings of different sizes are never equal.
use Rattle.std.proofs.Common.{◌≡◌, ◌<◌, ◌+◌, ◌*◌, ◌≤◌, ◌∙◌, ℕ, Bool, List, [], Option, length, take, drop, sym, ap, arith}
use Rattle.std.specs.Bool.{⊤}
use Rattle.std.specs.List.{range_with_len}
use Rattle.std.proofs.lemmas.List.{get_or-map, length-map, length-take, length-drop}
use Rattle.std.proofs.lemmas.List.FromFn.{get_or-map-range_with_len, length-range_with_len}
use Rattle.std.proofs.lemmas.Nat.{mul-le}
use Rattle.polars_arrays_flat.specs.Kind.{FixedSizeBinaryKind}
use Rattle.polars_arrays_flat.specs.Row.{Null, Bytes}
use Rattle.polars_arrays_flat.specs.StoredRows.{row, byte_slots}
use Rattle.polars_arrays_bytes.specs.SizedStrings.{sized_string, sized_strings}
use Rattle.polars_compare_leaves.specs.Equality.{RawEquality}

bytes-equal : (xs ys : List ℕ) → Bytes xs ≡ Bytes ys → xs ≡ ys
bytes-equal xs ys e = cc

taken : (size start : ℕ) (values : List ℕ) → start + size ≤ length values → length (take size (drop start values)) ≡ size
taken size start values within = omega (arith, length-drop start values, length-take size (drop start values))

-- string i of strings of one size has that size
size-at : (size count i : ℕ) (values : List ℕ) → i < count → length values ≡ size * count → length (sized_string size values i) ≡ size
size-at size count i values lt whole =
    let fits : size * (i + 1) ≤ size * count = mul-le size (i + 1) size count (omega arith) (omega (arith, lt)) in
    taken size (size * i) values (omega (arith, fits, whole))

length-strings : (size count : ℕ) (values : List ℕ) → length (sized_strings size count values) ≡ count
length-strings size count values = length-map (range_with_len 0 count) (sized_string size values) ∙ length-range_with_len 0 count

slot-is : (size count i : ℕ) (values : List ℕ) → i < count → row (byte_slots (sized_strings size count values)) i ≡ Bytes (sized_string size values i)
slot-is size count i values lt =
    get_or-map Bytes (sized_strings size count values) i [] Null (omega (arith, lt, length-strings size count values))
    ∙ ap Bytes (get_or-map-range_with_len (sized_string size values) 0 count i i [] lt (omega arith))

-- so rows that are equal are of one size
sizes-equal :
    (m n count other i : ℕ) (xs ys : List ℕ) → i < count → i < other → length xs ≡ m * count → length ys ≡ n * other
    → row (byte_slots (sized_strings m count xs)) i ≡ row (byte_slots (sized_strings n other ys)) i → m ≡ n
sizes-equal m n count other i xs ys left_in right_in left right e =
    let same : sized_string m xs i ≡ sized_string n ys i = bytes-equal _ _ (sym (slot-is m count i xs left_in) ∙ e ∙ slot-is n other i ys right_in) in
    sym (size-at m count i xs left_in left) ∙ ap length same ∙ size-at n other i ys right_in right

-- raw equality of byte strings of one size is that of arrays of their types, whether or not the sizes are the same
pub sized-raw :
    (told : Bool) (l r : Option (List Bool)) (m n count other : ℕ) (xs ys : List ℕ) (bits : List Bool) → length xs ≡ m * count → length ys ≡ n * other
    → length (sized_strings m count xs) ≡ length (sized_strings n other ys)
    → RawEquality told ⊤ l r (byte_slots (sized_strings m count xs)) (byte_slots (sized_strings n other ys)) bits
    → RawEquality told (FixedSizeBinaryKind m ≡ FixedSizeBinaryKind n) l r (byte_slots (sized_strings m count xs)) (byte_slots (sized_strings n other ys)) bits
sized-raw told l r m n count other xs ys bits left right as_long raw = record {
  size = raw.size;
  at_present = λ i h p q.
      let k = raw.at_present i h p q in
      let left_in : i < count = omega (arith, h, length-map (sized_strings m count xs) Bytes, length-strings m count xs) in
      let right_in : i < other = omega (arith, left_in, as_long, length-strings m count xs, length-strings n other ys) in (
        (λ t. let e = (k.0 t).1 in (ap FixedSizeBinaryKind (sizes-equal m n count other i xs ys left_in right_in left right e), e)),
        (λ s. k.1 (tt, s.1)),
      );
}
