-- Cells that are lent: byte strings of an array, with ends of 32 or of 64 bits.
use Rattle.std.specs.Prelude.{◌≡◌, ◌*◌, ℕ, Bool, true, false, List, None, length}
use Rattle.polars_arrays_bytes.specs.OffsetStrings.{offset_strings}
use Rattle.diff_pairs.specs.declared.cells.LentCells.{LentCells}
use Rattle.diff_pairs.specs.declared.cells.LentCells.TheVariants.{Near, Far}
use Rattle.diff_pairs.specs.declared.rows.LentRows.{LentRows}

-- the strings that are lent
abbrev pub strings_of : LentCells → List (List ℕ)
strings_of (Near array bytes) = offset_strings (λ x. x) array.now
strings_of (Far array) = offset_strings (λ x. x) array.now

-- their ends have 64 bits
abbrev pub are_far : LentCells → Bool
are_far (Near array bytes) = false
are_far (Far array) = true

-- all strings are present, and the bytes beside an array are its own
abbrev pub AreWhole : LentCells → Type 0
AreWhole (Near array bytes) = (array.now.validity ≡ None) × (bytes.now.items ≡ array.now.values)
AreWhole (Far array) = array.now.validity ≡ None

-- the cells are those of the rows and no more
abbrev pub AreRows : LentRows → Type 0
AreRows r = AreWhole r.cells × (length (strings_of r.cells) ≡ r.width * r.count)
