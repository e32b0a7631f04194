-- Requirements of nested arrays on their parts, at all levels.
use Rattle.std.specs.Prelude.{◌≡◌, ◌*◌, ℕ, Bool, List, [], ◌∷◌, Option, ⊤}
use Rattle.polars_arrays_bytes.specs.OffsetStrings.{AreGood}
use Rattle.polars_arrays_flat.specs.DataType.{kind_of}
use Rattle.polars_arrays_flat.specs.Validity.{HasBits}
use Rattle.polars_arrays_flat.specs.declared.data_type.Field.{Field}
use Rattle.polars_arrays_nested.specs.DictKeys.{NameEntries, key_places, key_validity}
use Rattle.polars_arrays_nested.specs.Lengths.{len_of}
use Rattle.polars_arrays_nested.specs.ListOffsets.{list_count, list_places}
use Rattle.polars_arrays_nested.specs.Types.{type_of}
use Rattle.polars_arrays_nested.specs.declared.any_array.AnyArray.{AnyArray, Null, Boolean, Int8}
use Rattle.polars_arrays_nested.specs.declared.any_array.AnyArray.{Int16, Int32, Int64, Int128}
use Rattle.polars_arrays_nested.specs.declared.any_array.AnyArray.{UInt8, UInt16, UInt32, UInt64}
use Rattle.polars_arrays_nested.specs.declared.any_array.AnyArray.{UInt128, Binary, LargeBinary}
use Rattle.polars_arrays_nested.specs.declared.any_array.AnyArray.{Utf8, LargeUtf8, BinaryView}
use Rattle.polars_arrays_nested.specs.declared.any_array.AnyArray.{Utf8View, FixedSizeBinary, List'}
use Rattle.polars_arrays_nested.specs.declared.any_array.AnyArray.{FixedSizeList', Struct'}
use Rattle.polars_arrays_nested.specs.declared.any_array.AnyArray.{Dictionary', Row_of-AnyArray}
use Rattle.polars_arrays_nested.specs.declared.any_array.AnyArray.{end_of-AnyArray}
use Rattle.polars_arrays_nested.specs.declared.any_array.AnyArray.{more_of-AnyArray}
use Rattle.polars_arrays_nested.specs.declared.dict_keys.DictKeys.{DictKeys}
use Rattle.polars_arrays_nested.specs.declared.list_offsets.ListOffsets.{ListOffsets}

-- the parts make lists within n items: a bit for each list in a validity, and good offsets
pub record AreLists (n : ℕ) (offsets : ListOffsets) (validity : Option (List Bool)) : Type 0 where
  pub bits : HasBits (list_count offsets) validity
  pub good : AreGood n (list_places offsets)

-- the parts make `len` lists of `width` items each: a bit for each list, and width * len items
pub record AreFixedLists (n width len : ℕ) (validity : Option (List Bool)) : Type 0 where
  pub bits : HasBits len validity
  pub items : n ≡ width * len

-- the keys make rows of n entries: each present key names one
pub record AreKeys (n : ℕ) (keys : DictKeys) : Type 0 where
  pub named : NameEntries n (key_validity keys) (key_places keys)

abbrev mutual
  -- an array and all arrays inside it are made of good parts; one that is not nested always is
  pub IsGood : AnyArray → Type 0
  IsGood (Null a) = ⊤
  IsGood (Boolean a) = ⊤
  IsGood (Int8 a) = ⊤
  IsGood (Int16 a) = ⊤
  IsGood (Int32 a) = ⊤
  IsGood (Int64 a) = ⊤
  IsGood (Int128 a) = ⊤
  IsGood (UInt8 a) = ⊤
  IsGood (UInt16 a) = ⊤
  IsGood (UInt32 a) = ⊤
  IsGood (UInt64 a) = ⊤
  IsGood (UInt128 a) = ⊤
  IsGood (Binary a) = ⊤
  IsGood (LargeBinary a) = ⊤
  IsGood (Utf8 a) = ⊤
  IsGood (LargeUtf8 a) = ⊤
  IsGood (BinaryView a) = ⊤
  IsGood (Utf8View a) = ⊤
  IsGood (FixedSizeBinary a) = ⊤
  IsGood (List' offsets p values validity) = AreLists (len_of values) offsets validity
      × IsGood values
  IsGood (FixedSizeList' width len p values validity) =
      AreFixedLists (len_of values) width len validity × IsGood values
  IsGood (Struct' fields len p values validity) = HasBits len validity
      × AreFields fields.items len values
  IsGood (Dictionary' keys p values) = AreKeys (len_of values) keys × IsGood values

  -- each field has a good array of its type and of `len` rows
  pub AreFields : {m : _} → List Field → ℕ → Row_of-AnyArray m → Type 0
  AreFields [] len end_of-AnyArray = ⊤
  AreFields (field ∷ fields) len (more_of-AnyArray first rest) =
      (len_of first ≡ len) × (type_of first ≡ kind_of field.dtype) × IsGood first
      × AreFields fields len rest
  AreFields _ len _ = ⊥
