use Rattle.std.proofs.Common.{◌≤◌, ◌-◌, drop}
use Rattle.std.specs.HashMap.{get_by}
use Rattle.std.specs.Str.{bytes_eq}
use Rattle.polars_arrays_bytes.specs.OffsetStrings.{offset_strings}
use Rattle.schema_values.proofs.DistinctLemmas.{AreCounted}
use Rattle.schema_values.proofs.distinct.count_strings.Given as goal

abbrev pub invariant-loop-k : goal.invariant-loop-k
invariant-loop-k l =
    AreCounted bytes_eq (drop (l.all - l.k) (offset_strings (λ x. x) l.cells)) (λ q. get_by (λ x. bytes_eq q x.now) l.seen) l.count × (l.count ≤ l.k)
