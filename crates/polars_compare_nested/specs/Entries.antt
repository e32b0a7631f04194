-- The entries that two keys of dictionaries refer to.
use Rattle.std.specs.Prelude.{◌≡◌, ◌<◌, ◌+◌, ◌&&◌, ℕ, Bool, List, false, true, Option, Some, None}
use Rattle.std.specs.Prelude.{length, slice_index}
use Rattle.polars_arrays_bytes.specs.OffsetStrings.{place_at}
use Rattle.polars_arrays_flat.specs.Validity.{is_present}
use Rattle.polars_arrays_nested.specs.DictKeys.{key_at, key_places, key_validity}
use Rattle.polars_arrays_nested.specs.Lengths.{len_of}
use Rattle.polars_arrays_nested.specs.Parts.{dictionary_keys, dictionary_values}
use Rattle.polars_arrays_nested.specs.Places.{place_or_zero}
use Rattle.polars_arrays_nested.specs.declared.dict_keys.DictKeys.{DictKeys}
use Rattle.polars_arrays_nested.specs.declared.dictionary.DictionaryArray.{DictionaryArray}
use Rattle.polars_compare_nested.specs.declared.entries.EntryPair.{EntryPair}

-- true if key i of the left array and key j of the right one are both not null
abbrev pub both_present : DictionaryArray → ℕ → DictionaryArray → ℕ → Bool
both_present l i r j =
    is_present (key_validity (dictionary_keys l)) i
    && is_present (key_validity (dictionary_keys r)) j

-- the entries that two keys refer to; both keys are not null
pub record AreEntries (l : DictionaryArray) (i : ℕ) (r : DictionaryArray) (j : ℕ)
    (pair : EntryPair) : Type 0 where
  pub present : both_present l i r j ≡ true
  pub left_is : pair.left ≡ key_at (dictionary_keys l) i
  pub right_is : pair.right ≡ key_at (dictionary_keys r) j
  pub left_in : pair.left < len_of (dictionary_values l)
  pub right_in : pair.right < len_of (dictionary_values r)

-- the entries that two keys refer to, or None if a key is null
abbrev pub AreRowEntries : DictionaryArray → ℕ → DictionaryArray → ℕ → Option EntryPair → Type 0
AreRowEntries l i r j None = both_present l i r j ≡ false
AreRowEntries l i r j (Some pair) = AreEntries l i r j pair

-- the first n of 64 numbers are the places at the n indices from `at` on, or 0 for None
pub record HoldsPlaces (all : List (Option ℕ)) (at n : ℕ) (found : List ℕ) : Type 0 where
  pub size : length found ≡ 64
  pub each : (k : ℕ) → k < n → slice_index found k ≡ place_or_zero (place_at all (at + k))

-- the first n of 64 numbers are the n keys from key `at` on, or 0 for a negative key
abbrev pub HoldsKeys : DictKeys → ℕ → ℕ → List ℕ → Type 0
HoldsKeys keys at n found = HoldsPlaces (key_places keys) at n found
