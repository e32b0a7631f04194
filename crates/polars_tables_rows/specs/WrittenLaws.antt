-- A truth value is printed as its word.
use Rattle.std.specs.Prelude.{◌≡◌, Bool, true, false, if◌then◌else◌, codes, Some, refl}
use Rattle.polars_arrays_flat.specs.Row.{Truth}
use Rattle.polars_tables_rows.specs.Written.{row_word}

pub truth_shown : (b : Bool) → Some (if b then codes "true" else codes "false")
    ≡ Some (row_word (Truth b))
truth_shown true = refl
truth_shown false = refl
