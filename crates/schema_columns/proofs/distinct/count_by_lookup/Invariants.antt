use Rattle.std.proofs.Common.{◌≤◌, ◌-◌, drop}
use Rattle.std.specs.HashMap.{get}
use Rattle.std.specs.Ordering.{int_eq}
use Rattle.schema_values.proofs.DistinctLemmas.{AreCounted}
use Rattle.schema_columns.proofs.distinct.count_by_lookup.Given as goal

abbrev pub invariant-loop-k : goal.invariant-loop-k
invariant-loop-k l = AreCounted int_eq (drop (l.all - l.k) l.numbers) (λ q. get int_eq l.seen q) l.count × (l.count ≤ l.k)
