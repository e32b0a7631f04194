-- Laws of missing equality.
use Rattle.std.specs.Prelude.{◌≡◌, ◌<◌, ℕ, Bool, true, false, not, IsTrue, List, length, map}
use Rattle.std.specs.Prelude.{slice_index_or}
use Rattle.polars_arrays_flat.specs.Row.{Row}
use Rattle.polars_compare_leaves.specs.Equality.{MissingEquality}
use Rattle.polars_compare.specs.Types.{Types, OneType}

-- bits of missing equality of the rows of two arrays of one type
pub record Equality (left right : List Row) (bits : List Bool) : Type 0 where
  pub types : Types
  pub one_type : OneType types
  pub equal : MissingEquality true (OneType types) left right bits

-- each row is equal to itself
abbrev pub MissingIsReflexive : Type 0
MissingIsReflexive = (xs : List Row) (bits : List Bool) → Equality xs xs bits
    → (i : ℕ) → i < length xs → IsTrue (slice_index_or bits i false)

-- exchanging the sides does not change the bits
abbrev pub MissingIsSymmetric : Type 0
MissingIsSymmetric = (xs ys : List Row) (bits turned : List Bool) → length ys ≡ length xs
    → Equality xs ys bits → Equality ys xs turned → turned ≡ bits

-- rows that are equal to a third row are equal
abbrev pub MissingIsTransitive : Type 0
MissingIsTransitive = (xs ys zs : List Row) (first second both : List Bool) → length ys ≡ length xs
    → length zs ≡ length xs
    → Equality xs ys first → Equality ys zs second → Equality xs zs both
    → (i : ℕ) → IsTrue (slice_index_or first i false) → IsTrue (slice_index_or second i false)
    → IsTrue (slice_index_or both i false)

-- bits of inequality are the negated bits of equality, for arrays of one type or of two
abbrev pub UnequalIsNotEqual : Type 0
UnequalIsNotEqual = (types : Types) (xs ys : List Row) (equal unequal : List Bool)
    → MissingEquality true (OneType types) xs ys equal
    → MissingEquality false (OneType types) xs ys unequal
    → unequal ≡ map not equal
