-- Rows under a validity, place by place.
use Rattle.std.proofs.Common.{◌≡◌, ℕ, zero, suc, Bool, true, false, List, [], ◌∷◌, refl, sym}
use Rattle.std.specs.Prelude.{Option, Some, None, slice_index_or}
use Rattle.polars_arrays_flat.specs.Row.{Row}
use Rattle.polars_arrays_flat.specs.Row.{Null as Missing}
use Rattle.polars_arrays_flat.specs.StoredRows.{kept, masked, rows_under}
use Rattle.polars_arrays_flat.specs.StoredRows.{row as row_at}
use Rattle.polars_arrays_flat.specs.Validity.{is_present}

pub kept-missing : (b : Bool) → kept b Missing ≡ Missing
kept-missing true = refl
kept-missing false = refl

row-masked : (bits : List Bool) (slots : List Row) (i : ℕ) → row_at (masked bits slots) i ≡ kept (slice_index_or bits i false) (row_at slots i)
row-masked [] slots zero = refl
row-masked [] slots (suc i) = refl
row-masked (bit ∷ bits) [] i = sym (kept-missing (slice_index_or (bit ∷ bits) i false))
row-masked (bit ∷ bits) (r ∷ slots) zero = refl
row-masked (bit ∷ bits) (r ∷ slots) (suc i) = row-masked bits slots i

pub row-under : (validity : Option (List Bool)) (slots : List Row) (i : ℕ) → row_at (rows_under validity slots) i ≡ kept (is_present validity i) (row_at slots i)
row-under None slots i = refl
row-under (Some bits) slots i = row-masked bits slots i
