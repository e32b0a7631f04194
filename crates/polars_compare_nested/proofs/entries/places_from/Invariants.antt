use Rattle.polars_arrays_bytes.specs.OffsetStrings.{places}
use Rattle.polars_compare_nested.specs.Entries.{HoldsPlaces}
use Rattle.polars_compare_nested.proofs.entries.places_from.Given as goal

abbrev pub invariant-loop-k : goal.invariant-loop-k
invariant-loop-k g l = HoldsPlaces (places g.K.Number.value l.keys) l.at l.k l.found
