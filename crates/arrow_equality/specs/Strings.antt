-- Two parts of strings that are compared in place.
--
-- Two parts with the strings `a`, null and `a`, `b` and the bits 1, 0: their count of comparisons
-- is 2 (`AreComparedStrings`).
use Rattle.std.specs.Prelude.{◌≡◌, ◌-◌, ◌^◌, ℕ, Bool, true, List, Option, min}
use Rattle.polars_arrays_bytes.specs.OffsetStrings.{strings_between}
use Rattle.polars_compare_leaves.specs.Joining.{Joined}
use Rattle.arrow_arrays.specs.Good.{HoldRows}
use Rattle.arrow_parts.specs.Lent.{present_in}
use Rattle.arrow_parts.specs.declared.part.Part.{Part}
use Rattle.arrow_equality.specs.PartStrings.{ArePartStrings, same_strings}
use Rattle.arrow_equality.specs.declared.compared.Compared.{Compared}

-- two parts of equally many strings, which lie between places, the bits that say which rows are
-- equal, null to null alone, and one comparison for each row
pub record AreComparedStrings (left right : Part) (left_all right_all : List (Option ℕ))
    (texts : Bool) (c : Compared) : Type 0 where
  pub left_good : ArePartStrings left left_all texts
  pub right_good : ArePartStrings right right_all texts
  pub left_held : HoldRows left
  pub right_held : HoldRows right
  pub one_length : left.rows ≡ right.rows
  pub joined : Joined true (present_in left) (present_in right)
      (same_strings (strings_between left_all left.u8s.now)
      (strings_between right_all right.u8s.now) left.rows)
      c.bits
  pub count : c.comparisons ≡ min left.rows (2 ^ 64 - 1)
