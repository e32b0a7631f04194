use Rattle.std.proofs.Common.{◌≡◌, ◌≤◌, ◌||◌, length, get_or, false}
use Rattle.polars_compute_slots.proofs.ReadValues.{kept_values, read_members, seen_null}
use Rattle.polars_compute_slots.proofs.reading.read_counts.Given as goal

abbrev pub invariant-loop-i : goal.invariant-loop-i
invariant-loop-i g l = record {
  values : l.counts.values ≡ length (kept_values (g.T.Number.value l.span.least) (g.S.Slots.set_slots l.slots) (g.N.NullValues.is_null l.nulls) l.i);
  seen : l.counts.seen ≡ length (read_members (g.T.Number.value l.span.least) (g.S.Slots.set_slots l.slots) (g.N.NullValues.is_null l.nulls) l.i);
  nulls : l.counts.has_null ≡ (get_or (g.S.Slots.set_slots l.slots) l.span.count false || seen_null (g.T.Number.value l.span.least) (g.S.Slots.set_slots l.slots) (g.N.NullValues.is_null l.nulls) l.i);
  few_values : l.counts.values ≤ l.i;
  few_seen : l.counts.seen ≤ l.i;
}
