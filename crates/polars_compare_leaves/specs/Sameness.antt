-- A test of whether two rows are the same.
use Rattle.std.specs.Prelude.{Bool, true, false, not, ◌&&◌}
use Rattle.std.specs.Bool.{beq}
use Rattle.std.specs.Ordering.{int_eq}
use Rattle.std.specs.Str.{bytes_eq}
use Rattle.polars_arrays_flat.specs.Row.{Row, Null, Int, Truth, Bytes, Rows, Fields, Entry, RowList}
use Rattle.polars_arrays_flat.specs.Row.{no_rows, more_rows}

-- two leaf rows (numbers, truth values, bytes) are of one sort and equal
abbrev pub same_leaf : Row → Row → Bool
same_leaf (Int m) (Int n) = int_eq m n
same_leaf (Truth a) (Truth b) = beq a b
same_leaf (Bytes xs) (Bytes ys) = bytes_eq xs ys
same_leaf x y = false

abbrev mutual
  -- two rows are the same, part by part: two nulls are, and two leaves of one sort if they `agree`
  pub same : (Row → Row → Bool) → Row → Row → Bool
  same agree Null Null = true
  same agree (Int m) (Int n) = agree (Int m) (Int n)
  same agree (Truth a) (Truth b) = agree (Truth a) (Truth b)
  same agree (Bytes xs) (Bytes ys) = agree (Bytes xs) (Bytes ys)
  same agree (Rows xs) (Rows ys) = same_rows agree xs ys
  same agree (Fields xs) (Fields ys) = same_rows agree xs ys
  same agree (Entry x) (Entry y) = same agree x y
  same agree x y = false

  -- two lists of rows are the same
  pub same_rows : (Row → Row → Bool) → RowList → RowList → Bool
  same_rows agree no_rows no_rows = true
  same_rows agree (more_rows x xs) (more_rows y ys) = same agree x y && same_rows agree xs ys
  same_rows agree xs ys = false

-- two rows are the same tree
abbrev pub same_row : Row → Row → Bool
same_row x y = same same_leaf x y

-- two rows are not the same tree
abbrev pub other_row : Row → Row → Bool
other_row x y = not (same_row x y)
