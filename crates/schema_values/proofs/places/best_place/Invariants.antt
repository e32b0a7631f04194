use Rattle.polars_arrays_bytes.specs.OffsetStrings.{offset_strings}
use Rattle.schema_values.specs.Numbers.{IsBestPlace, better}
use Rattle.schema_values.proofs.places.best_place.Given as goal

abbrev pub invariant-loop-i : goal.invariant-loop-i
invariant-loop-i l = IsBestPlace (better l.greatest) (offset_strings (λ x. x) l.cells) l.i l.best
