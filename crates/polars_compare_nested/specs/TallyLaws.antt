-- Laws of the cost of comparing two windows (their tally), and of the leaf slots that bound it.
use Rattle.std.specs.Prelude.{◌≡◌, ◌≤◌, ◌<◌, ◌+◌, ◌-◌, ℕ}
use Rattle.polars_arrays_nested.specs.Clones.{IsClone}
use Rattle.polars_arrays_nested.specs.Columns.{columns_leaves}
use Rattle.polars_arrays_nested.specs.Cuts.{IsCut}
use Rattle.polars_arrays_nested.specs.GoodParts.{IsGood}
use Rattle.polars_arrays_nested.specs.KeptAlike.{KeptAlike}
use Rattle.polars_arrays_nested.specs.Leaves.{leaves}
use Rattle.polars_arrays_nested.specs.Lengths.{len_of}
use Rattle.polars_arrays_nested.specs.ListOffsets.{offset_at, span}
use Rattle.polars_arrays_nested.specs.Parts.{columns, list_offsets, list_values}
use Rattle.polars_arrays_nested.specs.Types.{type_of}
use Rattle.polars_arrays_nested.specs.declared.any_array.AnyArray.{AnyArray, List, Struct}
use Rattle.polars_arrays_nested.specs.declared.list.ListArray.{ListArray}
use Rattle.polars_arrays_nested.specs.declared.list_offsets.ListOffsets.{ListOffsets}
use Rattle.polars_arrays_nested.specs.declared.struct_array.StructArray.{StructArray}
use Rattle.polars_compare_nested.specs.Runs.{Match}
use Rattle.polars_compare_nested.specs.Tally.{tally}
use Rattle.polars_compare_nested.specs.TallyColumns.{columns_tally}

-- the tally is at most the leaf slots of the left window
abbrev pub TallyIsWithinLeaves : Type 0
TallyIsWithinLeaves = (x y : AnyArray) → IsGood x → (a b n : ℕ) → a + n ≤ len_of x
    → tally x y a b n ≤ leaves x a n

-- the tallies of adjacent windows add up
abbrev pub TallyAddsUp : Type 0
TallyAddsUp = (x y : AnyArray) (a b m n : ℕ) → tally x y a b (m + n)
    ≡ tally x y a b m + tally x y (a + m) (b + m) n

-- the tally is the same with the sides exchanged
abbrev pub TallyIsSymmetric : Type 0
TallyIsSymmetric = (x y : AnyArray) → IsGood x → IsGood y → type_of x ≡ type_of y → (a b n : ℕ)
    → tally x y a b n ≡ tally y x b a n

-- the number of items of the n lists from list a on
abbrev pub items_in : ListOffsets → ℕ → ℕ → ℕ
items_in offsets a n = offset_at offsets (a + n) - offset_at offsets a

-- the items of a list end where those of the next one begin
abbrev pub ListsAreAdjacent : Type 0
ListsAreAdjacent = (l : ListArray) → IsGood (List l) → (i : ℕ) → i < len_of (List l)
    → offset_at (list_offsets l) i + span (list_offsets l) i ≡ offset_at (list_offsets l) (i + 1)

-- the leaf slots of a window of lists are those of one window of items
abbrev pub ListLeavesAreOneWindow : Type 0
ListLeavesAreOneWindow = (l : ListArray) (a n : ℕ)
    → leaves (List l) a n
    ≡ leaves (list_values l) (offset_at (list_offsets l) a) (items_in (list_offsets l) a n)

-- adjacent lists that match have the tally of one window of their items
abbrev pub ListTallyIsOneWindow : Type 0
ListTallyIsOneWindow = (l r : ListArray) → IsGood (List l) → IsGood (List r) → (a b n : ℕ)
    → a + n ≤ len_of (List l) → b + n ≤ len_of (List r) → Match l a r b n
    → tally (List l) (List r) a b n
    ≡ tally (list_values l) (list_values r) (offset_at (list_offsets l) a)
    (offset_at (list_offsets r) b) (items_in (list_offsets l) a n)

-- the leaf slots of a struct are those of its columns, each counted once
abbrev pub StructLeavesAreColumns : Type 0
StructLeavesAreColumns = (s : StructArray) (a n : ℕ) → leaves (Struct s) a n
    ≡ columns_leaves (columns s) a n

-- the tally of two structs is that of their columns, each counted once
abbrev pub StructTallyIsColumns : Type 0
StructTallyIsColumns = (s t : StructArray) (a b n : ℕ) → tally (Struct s) (Struct t) a b n
    ≡ columns_tally (columns s) (columns t) a b n

-- windows that are kept alike have equal tallies with any other window
abbrev pub TallyIsKept : Type 0
TallyIsKept = (x y other : AnyArray) (a a' b n : ℕ) → KeptAlike x y a a' n → tally x other a b n
    ≡ tally y other a' b n

-- a slice has the tally of the same rows of its original
abbrev pub TallyOfCut : Type 0
TallyOfCut =
    (x y other : AnyArray) (at n : ℕ) → IsCut x y at n → (i m b : ℕ) → i + m ≤ n
    → tally x other i b m ≡ tally y other (at + i) b m

-- a clone has the tally of its original
abbrev pub TallyOfClone : Type 0
TallyOfClone = (x y other : AnyArray) → IsClone x y → (a b n : ℕ) → tally x other a b n
    ≡ tally y other a b n
