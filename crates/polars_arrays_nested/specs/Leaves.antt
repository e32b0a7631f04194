-- The leaf slots of any array, an upper bound for the cost of comparing it.
use Rattle.std.specs.Prelude.{◌≡◌, ◌≤◌, ◌+◌, ◌-◌, ◌*◌, ℕ, zero, suc, cond}
use Rattle.polars_arrays_flat.specs.Validity.{is_present}
use Rattle.polars_arrays_nested.specs.DictKeys.{key_at, key_validity}
use Rattle.polars_arrays_nested.specs.GoodParts.{IsGood}
use Rattle.polars_arrays_nested.specs.Lengths.{len_of}
use Rattle.polars_arrays_nested.specs.ListOffsets.{offset_at}
use Rattle.polars_arrays_nested.specs.declared.any_array.AnyArray.{AnyArray, Null, Boolean, Int8}
use Rattle.polars_arrays_nested.specs.declared.any_array.AnyArray.{Int16, Int32, Int64, Int128}
use Rattle.polars_arrays_nested.specs.declared.any_array.AnyArray.{UInt8, UInt16, UInt32, UInt64}
use Rattle.polars_arrays_nested.specs.declared.any_array.AnyArray.{UInt128, Binary, LargeBinary}
use Rattle.polars_arrays_nested.specs.declared.any_array.AnyArray.{Utf8, LargeUtf8, BinaryView}
use Rattle.polars_arrays_nested.specs.declared.any_array.AnyArray.{Utf8View, FixedSizeBinary, List'}
use Rattle.polars_arrays_nested.specs.declared.any_array.AnyArray.{FixedSizeList', Struct'}
use Rattle.polars_arrays_nested.specs.declared.any_array.AnyArray.{Dictionary', Row_of-AnyArray}
use Rattle.polars_arrays_nested.specs.declared.any_array.AnyArray.{end_of-AnyArray}
use Rattle.polars_arrays_nested.specs.declared.any_array.AnyArray.{more_of-AnyArray}

-- the sum of f over `count` numbers from `from` on
abbrev pub total : (ℕ → ℕ) → ℕ → ℕ → ℕ
total f from zero = 0
total f from (suc count) = total f from count + f (from + count)

abbrev mutual
  -- the leaf slots in the n rows from row `from` on: one for each row, masked or not, but none in a
  -- null array; in nested arrays those of all items and columns, and of the entries of present keys
  pub leaves : AnyArray → ℕ → ℕ → ℕ
  leaves (Null a) from n = 0
  leaves (Boolean a) from n = n
  leaves (Int8 a) from n = n
  leaves (Int16 a) from n = n
  leaves (Int32 a) from n = n
  leaves (Int64 a) from n = n
  leaves (Int128 a) from n = n
  leaves (UInt8 a) from n = n
  leaves (UInt16 a) from n = n
  leaves (UInt32 a) from n = n
  leaves (UInt64 a) from n = n
  leaves (UInt128 a) from n = n
  leaves (Binary a) from n = n
  leaves (LargeBinary a) from n = n
  leaves (Utf8 a) from n = n
  leaves (LargeUtf8 a) from n = n
  leaves (BinaryView a) from n = n
  leaves (Utf8View a) from n = n
  leaves (FixedSizeBinary a) from n = n
  leaves (List' offsets p values validity) from n =
      leaves values (offset_at offsets from) (offset_at offsets (from + n) - offset_at offsets from)
  leaves (FixedSizeList' width len p values validity) from n =
      leaves values (width * from) (width * n)
  leaves (Struct' fields len p values validity) from n = leaves_across values from n
  leaves (Dictionary' keys p values) from n =
      total (λ k. cond (is_present (key_validity keys) k) (leaves values (key_at keys k) 1) 0) from
      n

  -- the number of leaf slots of all arrays in the n rows from row `from` on
  pub leaves_across : {m : _} → Row_of-AnyArray m → ℕ → ℕ → ℕ
  leaves_across end_of-AnyArray from n = 0
  leaves_across (more_of-AnyArray first rest) from n =
      leaves first from n + leaves_across rest from n

-- two adjacent windows of a good array have together as many leaf slots as the joined window
abbrev pub LeavesAddUp : Type 0
LeavesAddUp =
    (a : AnyArray) (from m n : ℕ) → IsGood a → from + m + n ≤ len_of a → leaves a from (m + n)
    ≡ leaves a from m + leaves a (from + m) n
