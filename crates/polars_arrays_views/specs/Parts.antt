-- Arrays of views as contracts see them, and their rows.
use Rattle.std.specs.Prelude.{ℕ, Bool, List, Option, length, map}
use Rattle.std.specs.List.{All}
use Rattle.polars_arrays_bits.specs.Buffer.{Elements}
use Rattle.polars_arrays_flat.specs.Row.{Row}
use Rattle.polars_arrays_flat.specs.StoredRows.{rows_under, byte_slots}
use Rattle.polars_arrays_flat.specs.Validity.{HasBits}
use Rattle.polars_arrays_views.specs.Views.{GoodView, row_bytes}

-- a view for each row, including masked rows, the bytes of each buffer, and the validity
pub record ViewParts : Type 0 where
  pub views : List (List ℕ)
  pub buffers : List (List ℕ)
  pub validity : Option (List Bool)

-- the bytes of each buffer
abbrev pub contents : List (Elements ℕ) → List (List ℕ)
contents buffers = map (λ b. b.items) buffers

-- the byte strings of views over buffers
abbrev pub strings_of : List (List ℕ) → List (List ℕ) → List (List ℕ)
strings_of buffers views = map (row_bytes buffers) views

-- the byte strings of an array, including those of masked rows
abbrev pub view_strings : ViewParts → List (List ℕ)
view_strings a = strings_of a.buffers a.views

-- the rows of an array: its byte strings, with Null in place of masked ones
abbrev pub view_rows : ViewParts → List Row
view_rows a = rows_under a.validity (byte_slots (view_strings a))

-- the parts make an array: a validity has a bit for each view, and each view is good, masked or not
abbrev pub GoodParts : ViewParts → Type 0
GoodParts a = HasBits (length a.views) a.validity × All (GoodView a.buffers) a.views
