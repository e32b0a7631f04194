-- The rows of an array are its stored rows under its validity.
use Rattle.std.proofs.Common.{◌≡◌, ◌<◌, ℕ, zero, suc, Bool, true, false, List, [], ◌∷◌, length, get_or, refl, ap, sym, ◌∙◌, arith}
use Rattle.std.specs.Prelude.{Option, Some, None}
use Rattle.std.proofs.lemmas.List.{same_lists, get_or_default}
use Rattle.std.proofs.lemmas.List.FromFn.{length-map-range_with_len, get_or-map-range_with_len}
use Rattle.polars_arrays_flat.specs.Row.{Row, Null}
use Rattle.polars_arrays_flat.specs.StoredRows.{kept, masked, rows_under}
use Rattle.polars_arrays_flat.specs.StoredRows.{row as row_at}
use Rattle.polars_arrays_flat.specs.Validity.{HasBits, is_present}
use Rattle.polars_arrays_nested.specs.AnyRows.{row, rows}
use Rattle.polars_arrays_nested.specs.ColumnLaws.{row-struct}
use Rattle.polars_arrays_nested.specs.DictKeys.{key_count, key_validity}
use Rattle.polars_arrays_nested.specs.GoodParts.{IsGood}
use Rattle.polars_arrays_nested.specs.ListOffsets.{list_count}
use Rattle.polars_arrays_nested.specs.MaskLaws.{dictionary-row}
use Rattle.polars_arrays_nested.specs.Masks.{mask_of, presence_of}
use Rattle.polars_arrays_nested.specs.Parts.{dictionary_keys, fixed_validity, list_offsets, list_validity, struct_validity}
use Rattle.polars_arrays_nested.specs.StoredRows.{listed, stored_entry, stored_entries, stored_fixed_list, stored_fixed_lists, stored_list, stored_lists, stored_struct, stored_structs}
use Rattle.polars_arrays_nested.specs.declared.any_array.AnyArray.{Dictionary, FixedSizeList, Struct}
use Rattle.polars_arrays_nested.specs.declared.any_array.AnyArray.{List as Lists}
use Rattle.polars_arrays_nested.specs.declared.dictionary.DictionaryArray.{DictionaryArray}
use Rattle.polars_arrays_nested.specs.declared.fixed_size_list.FixedSizeListArray.{FixedSizeListArray}
use Rattle.polars_arrays_nested.specs.declared.list.ListArray.{ListArray}
use Rattle.polars_arrays_nested.specs.declared.struct_array.StructArray.{StructArray}
use Rattle.polars_arrays_nested.proofs.Presence.{bits-entries}

kept-null : (b : Bool) → Null ≡ kept b Null
kept-null true = refl
kept-null false = refl

row-masked : (bits : List Bool) (stored : List Row) (i : ℕ) → row_at (masked bits stored) i ≡ kept (get_or bits i false) (row_at stored i)
row-masked [] stored i = refl
row-masked (bit ∷ bits) [] i = kept-null (get_or (bit ∷ bits) i false)
row-masked (bit ∷ bits) (first ∷ stored) zero = refl
row-masked (bit ∷ bits) (first ∷ stored) (suc i) = row-masked bits stored i

length-masked : (bits : List Bool) (stored : List Row) → length bits ≡ length stored → length (masked bits stored) ≡ length stored
length-masked [] [] same = refl
length-masked [] (first ∷ stored) same = absurd (omega arith)
length-masked (bit ∷ bits) [] same = absurd (omega arith)
length-masked (bit ∷ bits) (first ∷ stored) same = ap suc (length-masked bits stored (omega arith))

row-under : (validity : Option (List Bool)) (stored : List Row) (i : ℕ) → row_at (rows_under validity stored) i ≡ kept (is_present validity i) (row_at stored i)
row-under None stored i = refl
row-under (Some bits) stored i = row-masked bits stored i

length-under : (validity : Option (List Bool)) (stored : List Row) → HasBits (length stored) validity → length (rows_under validity stored) ≡ length stored
length-under None stored bits = refl
length-under (Some all) stored bits = length-masked all stored bits

bits-of : (n m : ℕ) (validity : Option (List Bool)) → n ≡ m → HasBits n validity → HasBits m validity
bits-of n m None same bits = tt
bits-of n m (Some all) same bits = omega (arith, same, bits)

-- n rows, each the stored one if it is present
rows-under : (f g : ℕ → Row) (n : ℕ) (validity : Option (List Bool)) → HasBits n validity → ((i : ℕ) → i < n → f i ≡ kept (is_present validity i) (g i)) → listed f n ≡ rows_under validity (listed g n)
rows-under f g n validity bits each =
    let there : length (listed g n) ≡ n = length-map-range_with_len g 0 n in
    let long : length (rows_under validity (listed g n)) ≡ n = length-under validity (listed g n) (bits-of n (length (listed g n)) validity (sym there) bits) ∙ there in
    let here : length (listed f n) ≡ n = length-map-range_with_len f 0 n in
    same_lists (listed f n) (rows_under validity (listed g n)) (here ∙ sym long)
    (λ i d low.
    let below : i < n = omega (arith, low, here) in
    get_or-map-range_with_len f 0 n i i d below (omega arith)
    ∙ each i below
    ∙ ap (kept (is_present validity i)) (sym (get_or-map-range_with_len g 0 n i i Null below (omega arith)))
    ∙ sym (row-under validity (listed g n) i)
    ∙ get_or_default (rows_under validity (listed g n)) i Null d (omega (arith, below, long)))

pub lists-under : (a : ListArray) → IsGood (Lists a) → rows (Lists a) ≡ rows_under (list_validity a) (stored_lists a)
lists-under a good =
    rows-under (row (Lists a)) (stored_list a) (list_count (list_offsets a)) (list_validity a) good.0.bits (λ i low. refl)

pub fixed_lists-under : (a : FixedSizeListArray) → IsGood (FixedSizeList a) → rows (FixedSizeList a) ≡ rows_under (fixed_validity a) (stored_fixed_lists a)
fixed_lists-under a good =
    rows-under (row (FixedSizeList a)) (stored_fixed_list a) a.len (fixed_validity a) good.0.bits (λ i low. refl)

pub structs-under : (a : StructArray) → IsGood (Struct a) → rows (Struct a) ≡ rows_under (struct_validity a) (stored_structs a)
structs-under a good = rows-under (row (Struct a)) (stored_struct a) a.len (struct_validity a) good.0 (λ i low. row-struct a i)

pub entries-under : (a : DictionaryArray) → IsGood (Dictionary a) → HasBits (key_count (dictionary_keys a)) (key_validity (dictionary_keys a)) → rows (Dictionary a) ≡ rows_under (mask_of (Dictionary a)) (stored_entries a)
entries-under a good bits =
    rows-under (row (Dictionary a)) (stored_entry a) (key_count (dictionary_keys a)) (mask_of (Dictionary a)) (bits-entries a.keys (presence_of a.values.value) bits) (λ i low. dictionary-row a i good low)

pub ruleset stored_rows = (lists-under, fixed_lists-under, structs-under, entries-under)
