use Rattle.std.proofs.Common.{◌+◌, sym, subst, arith}
use Rattle.polars_arrays_words.specs.Packing.{IsPacked}
use Rattle.polars_arrays_bits.proofs.CostSums.{cost-next}
use Rattle.polars_arrays_words.proofs.Puts.{packed-one, packed-put}
use Rattle.polars_arrays_bits.proofs.counting.pack_counted.Goals as goal

pub loop-i-preserved : goal.loop-i-preserved
loop-i-preserved g c = record {
  packed =
      packed-put
      c.loop-i.word c.from.result c.put-word.result (g.V.CountedValues.values c.args.values.now) c.args.at c.loop-i.i 1 (omega arith) (omega arith)
      c.put-word.ensures.below c.put-word.ensures.above c.loop-i.invariant.packed
      (subst
      (λ w. IsPacked w (g.V.CountedValues.values c.args.values.now) (c.args.at + c.loop-i.i) 1)
      (sym c.from.ensures)
      (packed-one c.value.result (g.V.CountedValues.values c.args.values.now) (c.args.at + c.loop-i.i) c.value.ensures.told));
  counted =
      cost-next (g.V.CountedValues.costs c.args.values.now) c.args.at c.loop-i.i c.args.steps.now c.loop-i.steps c.value.new.steps
      c.loop-i.invariant.counted c.value.ensures.counted;
}
