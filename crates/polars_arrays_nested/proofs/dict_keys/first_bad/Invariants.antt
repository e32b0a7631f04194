use Rattle.std.proofs.Common.{ℕ, ◌<◌}
use Rattle.polars_arrays_bytes.specs.OffsetStrings.{places}
use Rattle.polars_arrays_nested.specs.DictKeys.{IsGoodKey}
use Rattle.polars_arrays_nested.proofs.dict_keys.first_bad.Given as goal

abbrev pub invariant-loop-row : goal.invariant-loop-row
invariant-loop-row g l = (k : ℕ) → k < l.row → IsGoodKey l.n l.keys.validity (places g.K.Number.value l.keys.values) k
