-- Laws of missing equality of any two arrays of one type and length.
use Rattle.std.specs.Prelude.{◌≡◌, ◌<◌, ℕ, Bool, true, false, not, IsTrue, List, map}
use Rattle.std.specs.Prelude.{slice_index_or}
use Rattle.polars_arrays_nested.specs.AnyRows.{rows}
use Rattle.polars_arrays_nested.specs.Lengths.{len_of}
use Rattle.polars_arrays_nested.specs.declared.any_array.AnyArray.{AnyArray}
use Rattle.polars_compare_nested.specs.Headline.{SameTrees}

-- each row is the same tree as itself
abbrev pub ArraysAreReflexive : Type 0
ArraysAreReflexive = (a : AnyArray) (bits : List Bool) → SameTrees true a a bits
    → (i : ℕ) → i < len_of a → IsTrue (slice_index_or bits i false)

-- exchanging the sides does not change the bits
abbrev pub ArraysAreSymmetric : Type 0
ArraysAreSymmetric = (a b : AnyArray) (bits turned : List Bool) → len_of b ≡ len_of a
    → SameTrees true a b bits → SameTrees true b a turned → turned ≡ bits

-- rows that are the same as a third row are the same
abbrev pub ArraysAreTransitive : Type 0
ArraysAreTransitive = (a b c : AnyArray) (first second both : List Bool) → len_of b ≡ len_of a
    → len_of c ≡ len_of a
    → SameTrees true a b first → SameTrees true b c second → SameTrees true a c both
    → (i : ℕ) → IsTrue (slice_index_or first i false) → IsTrue (slice_index_or second i false)
    → IsTrue (slice_index_or both i false)

-- bits of inequality are the negated bits of equality
abbrev pub ArraysUnequalIsNotEqual : Type 0
ArraysUnequalIsNotEqual = (a b : AnyArray) (equal unequal : List Bool)
    → SameTrees true a b equal → SameTrees false a b unequal → unequal ≡ map not equal

-- arrays with the same rows have the same bits
abbrev pub ArraysByRows : Type 0
ArraysByRows = (told : Bool) (a b a' b' : AnyArray) (bits bits' : List Bool) → len_of b ≡ len_of a
    → rows a ≡ rows a' → rows b ≡ rows b' → SameTrees told a b bits → SameTrees told a' b' bits'
    → bits ≡ bits'
