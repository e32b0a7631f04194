use Rattle.polars_arrays_nested.specs.GoodParts.{IsGood}
use Rattle.bench_kernels.proofs.nested_operands.deep_list_array.Given as goal

abbrev pub invariant-loop-level : goal.invariant-loop-level
invariant-loop-level l = IsGood l.array.value
