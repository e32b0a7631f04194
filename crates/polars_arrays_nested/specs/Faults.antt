-- The first fault of parts that do not make an array (the order of faults is our own choice).
use Rattle.std.specs.Prelude.{◌≡◌, ◌<◌, ℕ, Bool, List, Option, Some, None, ⊤}
use Rattle.std.specs.List.{slice_get}
use Rattle.polars_arrays_bits.specs.declared.error.ArrayError.{ArrayError}
use Rattle.polars_arrays_bits.specs.declared.error.ArrayError.TheVariants.{Length, Offsets, Key}
use Rattle.polars_arrays_bits.specs.declared.error.ArrayError.TheVariants as fault
use Rattle.polars_arrays_bytes.specs.Faults.{IsFirstBad}
use Rattle.polars_arrays_flat.specs.DataType.{kind_of}
use Rattle.polars_arrays_flat.specs.Validity.{HasBits}
use Rattle.polars_arrays_flat.specs.declared.data_type.Field.{Field}
use Rattle.polars_arrays_nested.specs.DictKeys.{IsFirstBadKey, key_places, key_validity}
use Rattle.polars_arrays_nested.specs.Lengths.{len_of}
use Rattle.polars_arrays_nested.specs.ListOffsets.{list_count, list_places}
use Rattle.polars_arrays_nested.specs.Types.{type_of}
use Rattle.polars_arrays_nested.specs.declared.any_array.AnyArray.{AnyArray}
use Rattle.polars_arrays_nested.specs.declared.dict_keys.DictKeys.{DictKeys}
use Rattle.polars_arrays_nested.specs.declared.list_offsets.ListOffsets.{ListOffsets}

-- the error of parts that make no lists within n items; the validity is checked before the offsets
abbrev pub IsListFault : ℕ → ListOffsets → Option (List Bool) → ArrayError → Type 0
IsListFault n offsets validity Length = ¬ (HasBits (list_count offsets) validity)
IsListFault n offsets validity (Offsets row) =
    HasBits (list_count offsets) validity × IsFirstBad n (list_places offsets) row
IsListFault n offsets validity _ = ⊥

-- the error of keys if a present one names none of n entries
abbrev pub IsKeyFault : ℕ → DictKeys → ArrayError → Type 0
IsKeyFault n keys (Key row) = IsFirstBadKey n (key_validity keys) (key_places keys) row
IsKeyFault n keys _ = ⊥

-- a column has `len` rows and its field's type; None fits only None
abbrev pub Fits : ℕ → Option Field → Option AnyArray → Type 0
Fits len (Some field) (Some column) = (len_of column ≡ len) × (type_of column ≡ kind_of field.dtype)
Fits len None None = ⊤
Fits len _ _ = ⊥

-- the column at a place fits the field there
abbrev pub FitsAt : List Field → ℕ → List AnyArray → ℕ → Type 0
FitsAt fields len values k = Fits len (slice_get fields k) (slice_get values k)

-- the parts make `len` structs: a bit for each in a validity, and a fitting column for each field
pub record AreStructs (fields : List Field) (len : ℕ) (values : List AnyArray)
    (validity : Option (List Bool)) : Type 0 where
  pub bits : HasBits len validity
  pub fits : (k : ℕ) → FitsAt fields len values k

-- place `at` is the first whose column does not fit its field, or the end of the shorter list
pub record IsFirstMisfit (fields : List Field) (len : ℕ) (values : List AnyArray) (at : ℕ) :
    Type 0 where
  pub misfit : ¬ (FitsAt fields len values at)
  pub before : (k : ℕ) → k < at → FitsAt fields len values k

-- the error of parts that make no structs; the validity is checked before the columns
abbrev pub IsStructFault : List Field → ℕ → List AnyArray → Option (List Bool) → ArrayError → Type 0
IsStructFault fields len values validity Length = ¬ (HasBits len validity)
IsStructFault fields len values validity (fault.Field at) =
    HasBits len validity × IsFirstMisfit fields len values at
IsStructFault fields len values validity _ = ⊥
