use Rattle.std.proofs.Common.{◌≡◌, ◌<◌, ℕ, false}
use Rattle.std.specs.Option.{option_copied}
use Rattle.polars_arrays_flat.specs.Validity.{is_present}
use Rattle.arrow_extremes.proofs.extremes.first_present.Given as goal

abbrev pub invariant-loop-i : goal.invariant-loop-i
invariant-loop-i l = (k : ℕ) → k < l.i → is_present (option_copied l.present) k ≡ false
