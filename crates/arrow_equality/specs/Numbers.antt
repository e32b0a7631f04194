-- Two parts of numbers that are compared in place.
--
-- Two parts with the numbers 7, null and 7, 8 have the bits 1, 0, and their count of comparisons is
-- 2 (`AreComparedNumbers`).
use Rattle.std.specs.Prelude.{◌≡◌, ◌-◌, ◌^◌, ℕ, ℤ, true, List, length, min}
use Rattle.std.specs.Ordering.{int_eq}
use Rattle.std.specs.Simd.Lanes.{zip2}
use Rattle.std.specs.Str.{IsUtf8}
use Rattle.polars_compare_leaves.specs.Joining.{Joined}
use Rattle.arrow_arrays.specs.Good.{HoldRows}
use Rattle.arrow_parts.specs.Lent.{present_in}
use Rattle.arrow_parts.specs.declared.part.Part.{Part}
use Rattle.arrow_equality.specs.declared.compared.Compared.{Compared}

-- n numbers are those of a part, which has a name in UTF-8 and no part inside it
pub record ArePartNumbers (p : Part) (n : ℕ) : Type 0 where
  pub name : IsUtf8 p.name.now
  pub children : p.children ≡ 0
  pub count : n ≡ p.rows

-- two parts of equally many numbers, the bits that say which rows are equal, null to null alone,
-- and one comparison for each row; `value` gives the whole number of an element
pub record AreComparedNumbers {A : Type 0} (value : A → ℤ) (left right : Part) (xs ys : List A)
    (c : Compared) : Type 0 where
  pub left_good : ArePartNumbers left (length xs)
  pub right_good : ArePartNumbers right (length ys)
  pub left_held : HoldRows left
  pub right_held : HoldRows right
  pub one_length : left.rows ≡ right.rows
  pub joined : Joined true (present_in left) (present_in right)
      (zip2 (λ x y. int_eq (value x) (value y)) xs ys) c.bits
  pub count : c.comparisons ≡ min left.rows (2 ^ 64 - 1)
