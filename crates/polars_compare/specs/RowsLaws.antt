-- Laws of equal rows that are stored differently.
use Rattle.std.specs.Prelude.{◌≡◌, ◌≢◌, ℕ, Bool, false, List, Option, length, slice_index_or}
use Rattle.polars_arrays_flat.specs.Row.{Row, Null}
use Rattle.polars_arrays_flat.specs.StoredRows.{row, rows_under}
use Rattle.polars_arrays_flat.specs.Validity.{HasBits}
use Rattle.polars_compare_leaves.specs.Equality.{MissingEquality, RawEquality}
use Rattle.polars_compare_leaves.specs.Order.{RawOrder}
use Rattle.polars_compare.specs.Types.{Types, OneType}

-- stored rows, and an optional mask with a bit for each row
pub record Stored : Type 0 where
  pub slots : List Row
  pub mask : Option (List Bool)
  pub bits : HasBits (length slots) mask

-- the stored rows, with Null in place of each masked row
abbrev pub rows_of : Stored → List Row
rows_of a = rows_under a.mask a.slots

-- row i is null on neither side
abbrev pub BothPresent : Stored → Stored → ℕ → Type 0
BothPresent left right i = (row (rows_of left) i ≢ Null) × (row (rows_of right) i ≢ Null)

-- missing equality of the same rows gives the same bits, and so does missing inequality
abbrev pub MissingByRows : Type 0
MissingByRows =
    (told : Bool) (types : Types) (left right left' right' : Stored) (bits bits' : List Bool)
    → rows_of left ≡ rows_of left' → rows_of right ≡ rows_of right'
    → MissingEquality told (OneType types) (rows_of left) (rows_of right) bits
    → MissingEquality told (OneType types) (rows_of left') (rows_of right') bits'
    → bits ≡ bits'

-- raw equality, or inequality, of the same rows has the same bit wherever both rows are present
abbrev pub RawEqualityByRows : Type 0
RawEqualityByRows =
    (told : Bool) (types : Types) (left right left' right' : Stored) (bits bits' : List Bool)
    → rows_of left ≡ rows_of left' → rows_of right ≡ rows_of right'
    → RawEquality told (OneType types) left.mask right.mask left.slots right.slots bits
    → RawEquality told (OneType types) left'.mask right'.mask left'.slots right'.slots bits'
    → (i : ℕ) → BothPresent left right i → slice_index_or bits i false
    ≡ slice_index_or bits' i false

-- the raw order of the same rows has the same bit wherever both rows are present, for any test
abbrev pub RawOrderByRows : Type 0
RawOrderByRows =
    (test : Row → Row → Bool) (left right left' right' : Stored) (bits bits' : List Bool)
    → rows_of left ≡ rows_of left' → rows_of right ≡ rows_of right'
    → RawOrder test left.mask right.mask left.slots right.slots bits
    → RawOrder test left'.mask right'.mask left'.slots right'.slots bits'
    → (i : ℕ) → BothPresent left right i → slice_index_or bits i false
    ≡ slice_index_or bits' i false
