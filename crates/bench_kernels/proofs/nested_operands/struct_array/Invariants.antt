use Rattle.std.specs.List.{All}
use Rattle.polars_arrays_nested.specs.GoodParts.{IsGood}
use Rattle.bench_kernels.proofs.nested_operands.struct_array.Given as goal

abbrev pub invariant-loop-k : goal.invariant-loop-k
invariant-loop-k l = All IsGood l.columns.items
