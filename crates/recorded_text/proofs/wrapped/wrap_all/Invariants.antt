use Rattle.polars_arrays_nested.specs.GoodParts.{IsGood}
use Rattle.recorded_text.proofs.wrapped.wrap_all.Given as goal

abbrev pub invariant-loop-level : goal.invariant-loop-level
invariant-loop-level l = IsGood l.wrapped.value
