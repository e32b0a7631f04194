-- The keys of dictionaries as places among the entries.
use Rattle.std.specs.Prelude.{◌≡◌, ◌<◌, ℕ, pos, Bool, true, List, Option, Some, None, length}
use Rattle.polars_arrays_bytes.specs.OffsetStrings.{places, place_at}
use Rattle.polars_arrays_flat.specs.DataType.{key_kind}
use Rattle.polars_arrays_flat.specs.Kind.{Kind}
use Rattle.polars_arrays_flat.specs.Validity.{is_present}
use Rattle.polars_arrays_flat.specs.declared.data_type.IntegerType.{IntegerType}
use Rattle.polars_arrays_flat.specs.declared.data_type.IntegerType.TheVariants as name
use Rattle.polars_arrays_nested.specs.Places.{place_or_zero}
use Rattle.polars_arrays_nested.specs.declared.dict_keys.DictKeys.{DictKeys}
use Rattle.polars_arrays_nested.specs.declared.dict_keys.DictKeys.TheVariants.{Int8, Int16, Int32}
use Rattle.polars_arrays_nested.specs.declared.dict_keys.DictKeys.TheVariants.{Int64, UInt8, UInt16}
use Rattle.polars_arrays_nested.specs.declared.dict_keys.DictKeys.TheVariants.{UInt32, UInt64}

-- each stored key as a place among the entries, also of masked rows; None if it is negative
abbrev pub key_places : DictKeys → List (Option ℕ)
key_places (Int8 a) = places (λ x. x) a.values
key_places (Int16 a) = places (λ x. x) a.values
key_places (Int32 a) = places (λ x. x) a.values
key_places (Int64 a) = places (λ x. x) a.values
key_places (UInt8 a) = places (λ x. pos x) a.values
key_places (UInt16 a) = places (λ x. pos x) a.values
key_places (UInt32 a) = places (λ x. pos x) a.values
key_places (UInt64 a) = places (λ x. pos x) a.values

-- the validity of the keys
abbrev pub key_validity : DictKeys → Option (List Bool)
key_validity (Int8 a) = a.validity
key_validity (Int16 a) = a.validity
key_validity (Int32 a) = a.validity
key_validity (Int64 a) = a.validity
key_validity (UInt8 a) = a.validity
key_validity (UInt16 a) = a.validity
key_validity (UInt32 a) = a.validity
key_validity (UInt64 a) = a.validity

-- the type of the keys
abbrev pub key_type : DictKeys → IntegerType
key_type (Int8 a) = name.Int8
key_type (Int16 a) = name.Int16
key_type (Int32 a) = name.Int32
key_type (Int64 a) = name.Int64
key_type (UInt8 a) = name.UInt8
key_type (UInt16 a) = name.UInt16
key_type (UInt32 a) = name.UInt32
key_type (UInt64 a) = name.UInt64

-- the kind of the type of the keys
abbrev pub kind_of_keys : DictKeys → Kind
kind_of_keys keys = key_kind (key_type keys)

-- the number of keys
abbrev pub key_count : DictKeys → ℕ
key_count keys = length (key_places keys)

-- key i as the index of an entry; 0 for a negative key, and past the last key
abbrev pub key_at : DictKeys → ℕ → ℕ
key_at keys i = place_or_zero (place_at (key_places keys) i)

-- a place exists and is below n
abbrev pub IsEntry : ℕ → Option ℕ → Type 0
IsEntry n None = ⊥
IsEntry n (Some at) = at < n

-- key i is masked or names one of n entries; a masked key may be any number
abbrev pub IsGoodKey : ℕ → Option (List Bool) → List (Option ℕ) → ℕ → Type 0
IsGoodKey n validity all i = is_present validity i ≡ true → IsEntry n (place_at all i)

-- each present key names one of n entries
abbrev pub NameEntries : ℕ → Option (List Bool) → List (Option ℕ) → Type 0
NameEntries n validity all = (i : ℕ) → i < length all → IsGoodKey n validity all i

-- row `row` is the first whose present key names none of n entries
pub record IsFirstBadKey (n : ℕ) (validity : Option (List Bool)) (all : List (Option ℕ)) (row : ℕ) :
    Type 0 where
  pub within : row < length all
  pub bad : ¬ (IsGoodKey n validity all row)
  pub before : (k : ℕ) → k < row → IsGoodKey n validity all k
