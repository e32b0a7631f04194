-- Laws of the order of rows.
use Rattle.std.specs.Prelude.{◌≡◌, ◌↔◌, ◌⊎◌, ◌||◌, Bool, true, false, IsTrue}
use Rattle.polars_arrays_flat.specs.Row.{Row, Int, Truth, Bytes}
use Rattle.polars_compare_leaves.specs.Order.{row_at_most, row_greater, row_less}
use Rattle.polars_compare_leaves.specs.Sameness.{same_row}

-- true if two rows have an order: two numbers, two truth values, or two lists of bytes
abbrev pub have_order : Row → Row → Bool
have_order (Int m) (Int n) = true
have_order (Truth a) (Truth b) = true
have_order (Bytes xs) (Bytes ys) = true
have_order x y = false

-- exactly one of the three holds
pub record ExactlyOne (P Q R : Type 0) : Type 0 where
  pub some : P ⊎ (Q ⊎ R)
  pub not_first_two : P → Q → ⊥
  pub not_last_two : Q → R → ⊥
  pub not_outer_two : P → R → ⊥

-- the test of sameness is equality
abbrev pub SameIsEqual : Type 0
SameIsEqual = (x y : Row) → IsTrue (same_row x y) ↔ (x ≡ y)

-- of two rows with an order, exactly one holds: less, equal, or greater
abbrev pub OneOfThree : Type 0
OneOfThree = (x y : Row) → IsTrue (have_order x y)
    → ExactlyOne (IsTrue (row_less x y)) (x ≡ y) (IsTrue (row_greater x y))

-- of two rows with an order, one is at most the other if it is less or the same
abbrev pub AtMostIsLessOrSame : Type 0
AtMostIsLessOrSame = (x y : Row) → IsTrue (have_order x y) → row_at_most x y
    ≡ (row_less x y || same_row x y)

-- less is transitive
abbrev pub LessIsTransitive : Type 0
LessIsTransitive = (x y z : Row) → IsTrue (row_less x y) → IsTrue (row_less y z)
    → IsTrue (row_less x z)
