-- Stored rows that lie in a range, some of them masked.
use Rattle.std.proofs.Common.{◌≡◌, Bool, true, false, List, [], ◌∷◌, refl}
use Rattle.std.specs.Cmp.Derive.{both_true}
use Rattle.std.specs.Prelude.{ℤ, Option, Some, None}
use Rattle.polars_arrays_flat.specs.Row.{Row}
use Rattle.polars_arrays_flat.specs.StoredRows.{kept, masked, rows_under}
use Rattle.polars_compute_slots.proofs.States.{and-first, and-second}
use Rattle.polars_compute_slots.specs.State.{are_within, is_within}

within-kept : (range : List ℤ) (bit : Bool) (r : Row) → is_within range r ≡ true → is_within range (kept bit r) ≡ true
within-kept range true r e = e
within-kept range false r e = refl

within-masked : (range : List ℤ) (bits : List Bool) (rows : List Row) → are_within range rows ≡ true → are_within range (masked bits rows) ≡ true
within-masked range [] rows e = refl
within-masked range (bit ∷ bits) [] e = refl
within-masked range (bit ∷ bits) (r ∷ rows) e =
    both_true (within-kept range bit r (and-first (is_within range r) (are_within range rows) e))
    (within-masked range bits rows (and-second (is_within range r) (are_within range rows) e))

-- where all stored rows lie in a range, all rows are null or in it
pub within-under : (range : List ℤ) (validity : Option (List Bool)) (rows : List Row) → are_within range rows ≡ true → are_within range (rows_under validity rows) ≡ true
within-under range None rows e = e
within-under range (Some bits) rows e = within-masked range bits rows e
