use Rattle.std.proofs.Common.{◌≡◌, map, take}
use Rattle.polars_compute_slots.specs.State.{appended_all}
use Rattle.polars_compute_unique.proofs.merge.append_all.Given as goal

abbrev pub invariant-loop-array : goal.invariant-loop-array
invariant-loop-array g l = record {
  state : g.S.RangedUniqueKernel.state l.state ≡ appended_all (map g.S.RangedUniqueKernel.fed (take l.array-index l.arrays)) (g.S.RangedUniqueKernel.state l.fn.state);
  dictionary : g.S.RangedUniqueKernel.dictionary l.state ≡ g.S.RangedUniqueKernel.dictionary l.fn.state;
}
