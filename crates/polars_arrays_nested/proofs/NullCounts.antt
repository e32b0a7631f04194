-- How many rows are null, by the bits of a validity.
use Rattle.std.proofs.Common.{◌≡◌, ℕ, ◌+◌, Bool, true, false, not, cond, List, [], ◌∷◌, length, map, count_by, refl, ap, sym, ◌∙◌, arith}
use Rattle.std.specs.Prelude.{Option, Some, None}
use Rattle.std.specs.List.{range_with_len}
use Rattle.std.proofs.lemmas.List.FromFn.{length-range_with_len}
use Rattle.std.proofs.lemmas.List.Recursion.{is_count_by}
use Rattle.polars_arrays_flat.specs.ArrayRows.{is_null, null_total}
use Rattle.polars_arrays_flat.specs.Row.{Row}
use Rattle.polars_arrays_flat.specs.StoredRows.{masked, rows_under}
use Rattle.polars_arrays_flat.specs.Validity.{HasBits, masked_count}
use Rattle.polars_arrays_nested.specs.DictKeys.{key_count, key_validity}
use Rattle.polars_arrays_nested.specs.GoodParts.{IsGood}
use Rattle.polars_arrays_nested.specs.Parts.{dictionary_keys, fixed_validity, list_offsets, list_validity, struct_validity}
use Rattle.polars_arrays_nested.specs.ListOffsets.{list_count}
use Rattle.polars_arrays_nested.specs.StoredRows.{listed, stored_entries, stored_entry, stored_fixed_list, stored_fixed_lists, stored_list, stored_lists, stored_struct, stored_structs}
use Rattle.polars_arrays_nested.specs.declared.any_array.AnyArray.{FixedSizeList, Struct}
use Rattle.polars_arrays_nested.specs.declared.any_array.AnyArray.{List as Lists}
use Rattle.polars_arrays_nested.specs.declared.dictionary.DictionaryArray.{DictionaryArray}
use Rattle.polars_arrays_nested.specs.declared.fixed_size_list.FixedSizeListArray.{FixedSizeListArray}
use Rattle.polars_arrays_nested.specs.declared.list.ListArray.{ListArray}
use Rattle.polars_arrays_nested.specs.declared.struct_array.StructArray.{StructArray}

-- how many elements pass a test, by recursion
tally : {A : Type 0} → (A → Bool) → List A → ℕ
tally test [] = 0
tally test (x ∷ xs) = cond (test x) (1 + tally test xs) (tally test xs)

tally-is : {A : Type 0} (test : A → Bool) (xs : List A) → tally test xs ≡ count_by test xs
unfolding tally
tally-is test xs = is_count_by (tally test) test refl (λ x rest. refl) xs

stored-nulls : {A : Type 0} (f : A → Row) → ((x : A) → is_null (f x) ≡ false) → (xs : List A) → tally is_null (map f xs) ≡ 0
unfolding tally
stored-nulls f present [] = refl
stored-nulls f present (x ∷ xs) = rw (present x) (stored-nulls f present xs)

masked-nulls : {A : Type 0} (f : A → Row) → ((x : A) → is_null (f x) ≡ false) → (bits : List Bool) (xs : List A) → length bits ≡ length xs → tally is_null (masked bits (map f xs)) ≡ tally not bits
unfolding tally
masked-nulls f present [] xs same_length = refl
masked-nulls f present (bit ∷ bits) [] same_length = absurd (omega arith)
masked-nulls f present (true ∷ bits) (x ∷ xs) same_length =
    rw (present x) (masked-nulls f present bits xs (omega arith))
masked-nulls f present (false ∷ bits) (x ∷ xs) same_length =
    ap (λ n. 1 + n) (masked-nulls f present bits xs (omega arith))

-- where no stored row is Null, the nulls are the masked rows
nulls-masked : {A : Type 0} (f : A → Row) → ((x : A) → is_null (f x) ≡ false) → (validity : Option (List Bool)) (xs : List A) → HasBits (length xs) validity → masked_count validity ≡ null_total (rows_under validity (map f xs))
nulls-masked f present None xs has_bits =
    sym (stored-nulls f present xs) ∙ tally-is is_null (map f xs)
nulls-masked f present (Some bits) xs has_bits =
    sym (tally-is not bits) ∙ sym (masked-nulls f present bits xs has_bits) ∙ tally-is is_null (masked bits (map f xs))

-- a validity of n rows, said of a list of n places
bits-listed : (n : ℕ) (validity : Option (List Bool)) → HasBits n validity → HasBits (length (range_with_len 0 n)) validity
bits-listed n None has_bits = tt
bits-listed n (Some bits) has_bits = omega (arith, has_bits, length-range_with_len 0 n)

nulls-listed : (f : ℕ → Row) (n : ℕ) (validity : Option (List Bool)) → ((k : ℕ) → is_null (f k) ≡ false) → HasBits n validity → masked_count validity ≡ null_total (rows_under validity (listed f n))
nulls-listed f n validity present has_bits =
    nulls-masked f present validity (range_with_len 0 n) (bits-listed n validity has_bits)

pub lists-nulls : (a : ListArray) → IsGood (Lists a) → masked_count (list_validity a) ≡ null_total (rows_under (list_validity a) (stored_lists a))
lists-nulls a good = nulls-listed (stored_list a) (list_count (list_offsets a)) (list_validity a) (λ k. refl) good.0.bits

pub fixed_lists-nulls : (a : FixedSizeListArray) → IsGood (FixedSizeList a) → masked_count (fixed_validity a) ≡ null_total (rows_under (fixed_validity a) (stored_fixed_lists a))
fixed_lists-nulls a good = nulls-listed (stored_fixed_list a) a.len (fixed_validity a) (λ k. refl) good.0.bits

pub structs-nulls : (a : StructArray) → IsGood (Struct a) → masked_count (struct_validity a) ≡ null_total (rows_under (struct_validity a) (stored_structs a))
structs-nulls a good = nulls-listed (stored_struct a) a.len (struct_validity a) (λ k. refl) good.0

pub entries-nulls : (a : DictionaryArray) → HasBits (key_count (dictionary_keys a)) (key_validity (dictionary_keys a)) → masked_count (key_validity (dictionary_keys a)) ≡ null_total (rows_under (key_validity (dictionary_keys a)) (stored_entries a))
entries-nulls a bits = nulls-listed (stored_entry a) (key_count (dictionary_keys a)) (key_validity (dictionary_keys a)) (λ k. refl) bits

pub ruleset nulls_counted = (lists-nulls, fixed_lists-nulls, structs-nulls, entries-nulls)
