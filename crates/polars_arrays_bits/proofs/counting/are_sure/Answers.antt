use Rattle.std.proofs.lemmas.Bool.{and_parts}
use Rattle.polars_arrays_bits.proofs.CostSums.{free-next}
use Rattle.polars_arrays_bits.proofs.SureGuesses.{sure-more}
use Rattle.polars_arrays_bits.proofs.counting.are_sure.Goals as goal

pub loop-i-preserved : goal.loop-i-preserved
loop-i-preserved g c = record {
  sure = λ told.
      let both = and_parts c.loop-i.sure c.is_sure-sure.result told in
      sure-more (g.V.CountedValues.sure c.args.values.now) c.args.at c.loop-i.i (c.loop-i.invariant.sure both.0) (c.is_sure-sure.ensures.sure both.1);
  free = λ told.
      let both = and_parts c.loop-i.sure c.is_sure-sure.result told in
      free-next (g.V.CountedValues.costs c.args.values.now) c.args.at c.loop-i.i (c.loop-i.invariant.free both.0) (c.is_sure-sure.ensures.free both.1);
}
