-- Comparisons of two arrays, row by row.
use Rattle.std.specs.Prelude.{◌≡◌, ◌≤◌, ◌-◌, ◌^◌, ℕ, min, true, ⊤}
use Rattle.polars_arrays_nested.specs.Leaves.{leaves}
use Rattle.polars_arrays_nested.specs.Lengths.{len_of}
use Rattle.polars_arrays_nested.specs.Types.{type_of}
use Rattle.polars_arrays_nested.specs.declared.any_array.AnyArray.{AnyArray}
use Rattle.polars_compare_nested.specs.Headline.{SameTrees}
use Rattle.polars_compare_nested.specs.Tally.{tally}
use Rattle.arrow_parts.specs.declared.refused.Refused.{Refused}
use Rattle.arrow_parts.specs.declared.refused.Refused.TheVariants.{Parts, Types, Room, Memory}
use Rattle.arrow_equality.specs.declared.compared.Compared.{Compared}

-- the exact number of comparisons of leaves, as a number of 64 bits
abbrev pub IsCounted : AnyArray → AnyArray → ℕ → Type 0
IsCounted left right n = n ≡ min (tally left right 0 0 (len_of left)) (2 ^ 64 - 1)

-- two arrays are of one type and length
pub record AreComparable (left right : AnyArray) : Type 0 where
  pub one_type : type_of left ≡ type_of right
  pub one_length : len_of left ≡ len_of right

-- a refusal to compare two arrays is true: they are not of one type and length, or an allocation
-- failed
abbrev pub IsRefusedPair : AnyArray → AnyArray → Refused → Type 0
IsRefusedPair left right Parts = ⊥
IsRefusedPair left right Types = ¬ (AreComparable left right)
IsRefusedPair left right Room = ⊥
IsRefusedPair left right Memory = ⊤

-- two arrays of one type and length, their equal rows, and the comparisons that this took: at most
-- one for each leaf slot of the left array
pub record AreCompared (left right : AnyArray) (c : Compared) : Type 0 where
  pub one_type : type_of left ≡ type_of right
  pub one_length : len_of left ≡ len_of right
  pub same : SameTrees true left right c.bits
  pub counted : IsCounted left right c.comparisons
  pub bound : c.comparisons ≤ leaves left 0 (len_of left)
