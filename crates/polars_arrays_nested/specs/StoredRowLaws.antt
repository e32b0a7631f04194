-- No stored list, struct or entry is Null.
use Rattle.std.specs.Prelude.{◌≡◌, ◌<◌, ℕ, false, length}
use Rattle.std.proofs.Common.{arith, ap, sym, ◌∙◌}
use Rattle.std.proofs.lemmas.List.FromFn.{length-map-range_with_len, get_or-map-range_with_len}
use Rattle.polars_arrays_flat.specs.ArrayRows.{is_null}
use Rattle.polars_arrays_flat.specs.Row.{Row, Null}
use Rattle.polars_arrays_flat.specs.StoredRows.{row as row_at}
use Rattle.polars_arrays_nested.specs.StoredRows.{listed}

-- if no row of a list is Null, none is stored as Null
pub listed-present : (f : ℕ → Row) (n i : ℕ) → ((k : ℕ) → is_null (f k) ≡ false)
    → i < length (listed f n) → row_at (listed f n) i ≡ Null → ⊥
listed-present f n i present within null =
    let there : row_at (listed f n) i
    ≡ f i = get_or-map-range_with_len f 0 n i i Null
    (omega (arith, within, length-map-range_with_len f 0 n)) (omega arith) in
    let is : is_null Null ≡ false = sym (ap is_null (sym there ∙ null)) ∙ present i in
    cc
