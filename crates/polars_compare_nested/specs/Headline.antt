-- Results of the missing kernels for two whole arrays.
use Rattle.std.specs.Prelude.{◌≡◌, ◌<◌, ◌↔◌, ℕ, ℤ, Bool, false, IsTrue, List, length}
use Rattle.std.specs.Prelude.{slice_index_or}
use Rattle.polars_arrays_flat.specs.Row.{Row, Int, Truth, Bytes}
use Rattle.polars_arrays_nested.specs.AnyRows.{row}
use Rattle.polars_arrays_nested.specs.Lengths.{len_of}
use Rattle.polars_arrays_nested.specs.declared.any_array.AnyArray.{AnyArray}
use Rattle.polars_compare_leaves.specs.Sameness.{same}

-- one bit for each row: `told` exactly if the two rows are the same; leaf rows are if they `agree`
pub record SameRows (told : Bool) (agree : Row → Row → Bool) (left right : AnyArray)
    (bits : List Bool) : Type 0 where
  pub size : length bits ≡ len_of left
  pub at_each : (i : ℕ) → i < len_of left → (slice_index_or bits i false ≡ told)
      ↔ IsTrue (same agree (row left i) (row right i))

-- one bit for each row: `told` exactly if the two rows are the same tree
pub record SameTrees (told : Bool) (left right : AnyArray) (bits : List Bool) : Type 0 where
  pub size : length bits ≡ len_of left
  pub at_each : (i : ℕ) → i < len_of left → (slice_index_or bits i false ≡ told)
      ↔ (row left i ≡ row right i)

-- two leaf rows of one sort (numbers, truth values, byte strings) agree exactly if they are equal
pub record IsEquality (agree : Row → Row → Bool) : Type 0 where
  pub numbers : (m n : ℤ) → IsTrue (agree (Int m) (Int n)) ↔ (m ≡ n)
  pub truth_values : (a b : Bool) → IsTrue (agree (Truth a) (Truth b)) ↔ (a ≡ b)
  pub byte_strings : (xs ys : List ℕ) → IsTrue (agree (Bytes xs) (Bytes ys)) ↔ (xs ≡ ys)

-- if `agree` is equality, two rows are the same exactly if they are the same tree
abbrev pub EqualityTellsTrees : Type 0
EqualityTellsTrees =
    (agree : Row → Row → Bool) → IsEquality agree → (x y : Row) → IsTrue (same agree x y) ↔ (x ≡ y)
