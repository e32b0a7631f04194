-- Raw bits, joined with two masks.
use Rattle.std.specs.Prelude.{◌≡◌, ◌<◌, ℕ, Bool, true, false, not, List, Option, length}
use Rattle.std.specs.Prelude.{slice_index_or}
use Rattle.polars_arrays_flat.specs.Validity.{is_present}
use Rattle.polars_compare_leaves.specs.declared.joining.Relation.{Relation}
use Rattle.polars_compare_leaves.specs.declared.joining.Relation.TheVariants.{Equal, Unequal}

-- the bit that means "equal"
abbrev pub told : Relation → Bool
told Equal = true
told Unequal = false

-- the raw bit if both rows are present; unequal if one is, and equal if neither is
abbrev pub joined_bit : Bool → Bool → Bool → Bool → Bool
joined_bit equal raw true true = raw
joined_bit equal raw true false = not equal
joined_bit equal raw false true = not equal
joined_bit equal raw false false = equal

-- raw bits joined with the masks `left` and `right`; `equal` is the bit that means "equal"
pub record Joined (equal : Bool) (left right : Option (List Bool)) (raw bits : List Bool) :
    Type 0 where
  pub size : length bits ≡ length raw
  pub at_each : (i : ℕ) → i < length raw
      → slice_index_or bits i false
      ≡ joined_bit equal (slice_index_or raw i false) (is_present left i) (is_present right i)
