-- Windows of two arrays that are kept alike: comparing either with a third window costs the same.
use Rattle.std.specs.Prelude.{◌≡◌, ◌<◌, ◌+◌, ◌*◌, ℕ, Bool, true, List, Option, ⊤}
use Rattle.polars_arrays_flat.specs.Validity.{is_present}
use Rattle.polars_arrays_nested.specs.DictKeys.{key_at, key_validity}
use Rattle.polars_arrays_nested.specs.ListOffsets.{offset_at, span}
use Rattle.polars_arrays_nested.specs.declared.any_array.AnyArray.{AnyArray, Null, Boolean, Int8}
use Rattle.polars_arrays_nested.specs.declared.any_array.AnyArray.{Int16, Int32, Int64, Int128}
use Rattle.polars_arrays_nested.specs.declared.any_array.AnyArray.{UInt8, UInt16, UInt32, UInt64}
use Rattle.polars_arrays_nested.specs.declared.any_array.AnyArray.{UInt128, Binary, LargeBinary}
use Rattle.polars_arrays_nested.specs.declared.any_array.AnyArray.{Utf8, LargeUtf8, BinaryView}
use Rattle.polars_arrays_nested.specs.declared.any_array.AnyArray.{Utf8View, FixedSizeBinary, List'}
use Rattle.polars_arrays_nested.specs.declared.any_array.AnyArray.{FixedSizeList', Struct'}
use Rattle.polars_arrays_nested.specs.declared.any_array.AnyArray.{Dictionary', Row_of-AnyArray}
use Rattle.polars_arrays_nested.specs.declared.any_array.AnyArray.{end_of-AnyArray}
use Rattle.polars_arrays_nested.specs.declared.any_array.AnyArray.{more_of-AnyArray}
use Rattle.polars_arrays_nested.specs.declared.dict_keys.DictKeys.{DictKeys}
use Rattle.polars_arrays_nested.specs.declared.list_offsets.ListOffsets.{ListOffsets}

-- lists i and j are both present or both masked, with equally many items, which are kept alike
pub record AlikeLists (Items : ℕ → ℕ → ℕ → Type 0) (offsets : ListOffsets)
    (validity : Option (List Bool)) (offsets' : ListOffsets) (validity' : Option (List Bool))
    (i j : ℕ) : Type 0 where
  pub masks : is_present validity i ≡ is_present validity' j
  pub spans : span offsets i ≡ span offsets' j
  pub items : Items (offset_at offsets i) (offset_at offsets' j) (span offsets i)

-- keys i and j are both present or both masked, and the entries of present keys are kept alike
pub record AlikeKeys (Entries : ℕ → ℕ → ℕ → Type 0) (keys keys' : DictKeys) (i j : ℕ) : Type 0 where
  pub masks : is_present (key_validity keys) i ≡ is_present (key_validity keys') j
  pub entries : is_present (key_validity keys) i ≡ true → Entries (key_at keys i) (key_at keys' j) 1

abbrev mutual
  -- n rows of an array from row i on, and n rows of another of its kind from row j on, are kept
  -- alike: the same lists and keys are present, with equally many items, and so on down the tree,
  -- also under masked structs and lists of one width
  pub KeptAlike : AnyArray → AnyArray → ℕ → ℕ → ℕ → Type 0
  KeptAlike (Null a) (Null b) i j n = ⊤
  KeptAlike (Boolean a) (Boolean b) i j n = ⊤
  KeptAlike (Int8 a) (Int8 b) i j n = ⊤
  KeptAlike (Int16 a) (Int16 b) i j n = ⊤
  KeptAlike (Int32 a) (Int32 b) i j n = ⊤
  KeptAlike (Int64 a) (Int64 b) i j n = ⊤
  KeptAlike (Int128 a) (Int128 b) i j n = ⊤
  KeptAlike (UInt8 a) (UInt8 b) i j n = ⊤
  KeptAlike (UInt16 a) (UInt16 b) i j n = ⊤
  KeptAlike (UInt32 a) (UInt32 b) i j n = ⊤
  KeptAlike (UInt64 a) (UInt64 b) i j n = ⊤
  KeptAlike (UInt128 a) (UInt128 b) i j n = ⊤
  KeptAlike (Binary a) (Binary b) i j n = ⊤
  KeptAlike (LargeBinary a) (LargeBinary b) i j n = ⊤
  KeptAlike (Utf8 a) (Utf8 b) i j n = ⊤
  KeptAlike (LargeUtf8 a) (LargeUtf8 b) i j n = ⊤
  KeptAlike (BinaryView a) (BinaryView b) i j n = ⊤
  KeptAlike (Utf8View a) (Utf8View b) i j n = ⊤
  KeptAlike (FixedSizeBinary a) (FixedSizeBinary b) i j n = ⊤
  KeptAlike (List' offsets p values validity) (List' offsets' p' values' validity') i j n =
      (k : ℕ) → k < n
      → AlikeLists
      (λ x y m. KeptAlike values values' x y m) offsets validity offsets' validity' (i + k)
      (j + k)
  KeptAlike (FixedSizeList' width len p values validity)
      (FixedSizeList' width' len' p' values' validity') i j n =
      (width ≡ width') × KeptAlike values values' (width * i) (width * j) (width * n)
  KeptAlike (Struct' fields len p values validity) (Struct' fields' len' p' values' validity') i j
      n =
      AcrossAlike values values' i j n
  KeptAlike (Dictionary' keys p values) (Dictionary' keys' p' values') i j n =
      (k : ℕ) → k < n
      → AlikeKeys (λ x y m. KeptAlike values values' x y m) keys keys' (i + k) (j + k)
  KeptAlike _ _ i j n = ⊥

  -- the arrays at each place of two lists are kept alike
  pub AcrossAlike : {m : _} {m' : _} → Row_of-AnyArray m → Row_of-AnyArray m' → ℕ → ℕ → ℕ → Type 0
  AcrossAlike end_of-AnyArray end_of-AnyArray i j n = ⊤
  AcrossAlike (more_of-AnyArray first rest) (more_of-AnyArray first' rest') i j n =
      KeptAlike first first' i j n × AcrossAlike rest rest' i j n
  AcrossAlike _ _ i j n = ⊥
