-- Tests of rows. The numbers of rows that pass them determine the extremes of truth values.
use Rattle.std.specs.Prelude.{Bool, false, not}
use Rattle.std.specs.Bool.{beq}
use Rattle.polars_arrays_flat.specs.ArrayRows.{is_null}
use Rattle.polars_arrays_flat.specs.Row.{Row, Truth}

-- true if the row is present
abbrev pub is_there : Row → Bool
is_there row = not (is_null row)

-- true if the row is the truth value `value`
abbrev pub is_truth : Bool → Row → Bool
is_truth value (Truth bit) = beq value bit
is_truth value row = false
