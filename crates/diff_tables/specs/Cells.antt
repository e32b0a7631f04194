-- Byte strings as they are stored: an array of them, with ends of 32 or of 64 bits.
use Rattle.std.specs.Prelude.{◌≡◌, ℕ, Bool, true, false, List, None}
use Rattle.polars_arrays_bytes.specs.OffsetStrings.{offset_strings}
use Rattle.diff_tables.specs.declared.cells.Stored.{Stored}
use Rattle.diff_tables.specs.declared.cells.Stored.TheVariants.{Near, Far}

-- the strings, and whether their ends have 64 bits
pub record CellStrings : Type 0 where
  pub strings : List (List ℕ)
  pub far : Bool

-- the strings that are stored
abbrev pub cells_of : Stored → CellStrings
cells_of (Near array bytes) = record { strings = offset_strings (λ x. x) array; far = false }
cells_of (Far array) = record { strings = offset_strings (λ x. x) array; far = true }

-- all strings are present, and the bytes beside an array are its own
abbrev pub IsStored : Stored → Type 0
IsStored (Near array bytes) = (array.validity ≡ None) × (bytes.items ≡ array.values)
IsStored (Far array) = array.validity ≡ None
