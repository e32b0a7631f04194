use Rattle.std.specs.List.{All}
use Rattle.polars_arrays_nested.specs.GoodParts.{IsGood}
use Rattle.recorded_arrays.proofs.structs.read_columns.Given as goal

abbrev pub invariant-loop : goal.invariant-loop
invariant-loop l = All IsGood l.columns.items
