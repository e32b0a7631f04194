-- The cost of comparing two windows: one for each leaf slot of the left array that is compared.
use Rattle.std.specs.Prelude.{ℕ, zero, suc, ◌+◌, ◌*◌, ◌&&◌, eqb, cond, Bool, List, [], ◌∷◌, Option}
use Rattle.polars_arrays_flat.specs.Validity.{is_present}
use Rattle.polars_arrays_nested.specs.DictKeys.{key_at, key_validity}
use Rattle.polars_arrays_nested.specs.ListOffsets.{offset_at, span}
use Rattle.polars_arrays_nested.specs.declared.any_array.AnyArray.{AnyArray, Null, Boolean, Int8}
use Rattle.polars_arrays_nested.specs.declared.any_array.AnyArray.{Int16, Int32, Int64, Int128}
use Rattle.polars_arrays_nested.specs.declared.any_array.AnyArray.{UInt8, UInt16, UInt32, UInt64}
use Rattle.polars_arrays_nested.specs.declared.any_array.AnyArray.{UInt128, Binary, LargeBinary}
use Rattle.polars_arrays_nested.specs.declared.any_array.AnyArray.{Utf8, LargeUtf8, BinaryView}
use Rattle.polars_arrays_nested.specs.declared.any_array.AnyArray.{Utf8View, FixedSizeBinary, List'}
use Rattle.polars_arrays_nested.specs.declared.any_array.AnyArray.{FixedSizeList', Struct'}
use Rattle.polars_arrays_nested.specs.declared.any_array.AnyArray.{Dictionary', Row_of-AnyArray}
use Rattle.polars_arrays_nested.specs.declared.any_array.AnyArray.{end_of-AnyArray}
use Rattle.polars_arrays_nested.specs.declared.any_array.AnyArray.{more_of-AnyArray}
use Rattle.polars_arrays_nested.specs.declared.any_array.AnyArray.{items-the_row-AnyArray}
use Rattle.polars_arrays_nested.specs.declared.dict_keys.DictKeys.{DictKeys}
use Rattle.polars_arrays_nested.specs.declared.list_offsets.ListOffsets.{ListOffsets}

-- the sum of f over `count` pairs of places from places a and b on
abbrev pub total_pairs : (ℕ → ℕ → ℕ) → ℕ → ℕ → ℕ → ℕ
total_pairs f a b zero = 0
total_pairs f a b (suc count) = total_pairs f a b count + f (a + count) (b + count)

-- the cost of lists i and j: `items` of their windows if both are present and equally long, else 0
abbrev pub pair_tally : (ℕ → ℕ → ℕ → ℕ) → ListOffsets → Option (List Bool) → ListOffsets
    → Option (List Bool) → ℕ → ℕ → ℕ
pair_tally items offsets validity offsets' validity' i j =
    cond (is_present validity i && is_present validity' j && eqb (span offsets i) (span offsets' j))
    (items (offset_at offsets i) (offset_at offsets' j) (span offsets i))
    0

-- the cost of keys i and j of two dictionaries: `entries` of their entries, or 0 if a key is null
abbrev pub entry_tally : (ℕ → ℕ → ℕ → ℕ) → DictKeys → DictKeys → ℕ → ℕ → ℕ
entry_tally entries keys keys' i j =
    cond (is_present (key_validity keys) i && is_present (key_validity keys') j)
    (entries (key_at keys i) (key_at keys' j) 1) 0

abbrev mutual
  -- the cost of n rows from row a on of one array and row b on of another: one for a pair of
  -- leaves, none for null arrays, the sum over pairs of rows for lists and dictionaries, that of
  -- all items for lists of one width, and the sum over columns for structs
  pub tally : AnyArray → AnyArray → ℕ → ℕ → ℕ → ℕ
  tally (List' offsets p values validity) (List' offsets' p' values' validity') a b n =
      total_pairs (pair_tally
      (λ i j m. tally values values' i j m) offsets validity offsets' validity') a b n
  tally (FixedSizeList' width len p values validity)
      (FixedSizeList' width' len' p' values' validity') a b n =
      tally values values' (width * a) (width * b) (width * n)
  tally (Struct' fields len p values validity) (Struct' fields' len' p' values' validity') a b n =
      tally_across values (items-the_row-AnyArray _ values') a b n
  tally (Dictionary' keys p values) (Dictionary' keys' p' values') a b n =
      total_pairs (entry_tally (λ i j m. tally values values' i j m) keys keys') a b n
  tally (Null x) y a b n = 0
  tally (List' offsets p values validity) y a b n = 0
  tally (FixedSizeList' width len p values validity) y a b n = 0
  tally (Struct' fields len p values validity) y a b n = 0
  tally (Dictionary' keys p values) y a b n = 0
  tally (Boolean x) y a b n = n
  tally (Int8 x) y a b n = n
  tally (Int16 x) y a b n = n
  tally (Int32 x) y a b n = n
  tally (Int64 x) y a b n = n
  tally (Int128 x) y a b n = n
  tally (UInt8 x) y a b n = n
  tally (UInt16 x) y a b n = n
  tally (UInt32 x) y a b n = n
  tally (UInt64 x) y a b n = n
  tally (UInt128 x) y a b n = n
  tally (Binary x) y a b n = n
  tally (LargeBinary x) y a b n = n
  tally (Utf8 x) y a b n = n
  tally (LargeUtf8 x) y a b n = n
  tally (BinaryView x) y a b n = n
  tally (Utf8View x) y a b n = n
  tally (FixedSizeBinary x) y a b n = n

  -- the sum of the costs of pairs of columns
  pub tally_across : {m : _} → Row_of-AnyArray m → List AnyArray → ℕ → ℕ → ℕ → ℕ
  tally_across end_of-AnyArray others a b n = 0
  tally_across (more_of-AnyArray first rest) [] a b n = 0
  tally_across (more_of-AnyArray first rest) (other ∷ others) a b n =
      tally first other a b n + tally_across rest others a b n
