use Rattle.std.proofs.Common.{◌∙◌, List, ap, map, take}
use Rattle.std.specs.Prelude.{ℤ}
use Rattle.polars_compute_slots.specs.State.{are_within, range_of}
use Rattle.polars_compute_unique.proofs.Merges.{append-more, range-all}
use Rattle.polars_compute_unique.proofs.merge.append_all.Goals as goal

pub append-requires-clause-within : goal.append-requires-clause-within
append-requires-clause-within g c =
    let state = g.S.RangedUniqueKernel.state in
    let fed = g.S.RangedUniqueKernel.fed in
    let range = ap range_of c.loop-array.invariant.state ∙ range-all (map fed (take c.loop-array.array-index c.args.arrays.now)) (state c.args.state.now) in
    ap (λ (r : List ℤ). are_within r (fed c.array-item.result)) range
    ∙ ap (λ (x : g.row.S-Array.Denot). are_within (range_of (state c.args.state.now)) (fed x)) c.array-item.is
    ∙ c.requires.within c.loop-array.array-index c.array-item.result c.loop-array-test.true

pub loop-array-preserved : goal.loop-array-preserved
loop-array-preserved g c =
    let state = g.S.RangedUniqueKernel.state in
    let fed = g.S.RangedUniqueKernel.fed in
    record {
      state = append-more fed c.args.arrays.now c.loop-array.array-index c.array-item.result (state c.args.state.now) (state c.loop-array.state) (state c.append.new.self) c.loop-array-test.true c.array-item.is c.loop-array.invariant.state c.append.ensures.state;
      dictionary = c.append.ensures.dictionary ∙ c.loop-array.invariant.dictionary;
    }
