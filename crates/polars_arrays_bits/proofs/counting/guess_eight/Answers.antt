use Rattle.std.proofs.Common.{◌+◌, sym, subst, arith}
use Rattle.polars_arrays_words.specs.Packing.{IsPacked}
use Rattle.polars_arrays_words.proofs.Puts.{packed-one, packed-put}
use Rattle.polars_arrays_bits.proofs.SureGuesses.{sure-first}
use Rattle.polars_arrays_bits.proofs.counting.guess_eight.Goals as goal

pub loop-i-preserved : goal.loop-i-preserved
loop-i-preserved g c = λ all.
    packed-put
    c.loop-i.word c.from.result c.put-word.result (g.V.CountedValues.values c.args.values.now) c.args.at c.loop-i.i 1 (omega arith) (omega arith)
    c.put-word.ensures.below c.put-word.ensures.above
    (c.loop-i.invariant (sure-first (g.V.CountedValues.sure c.args.values.now) c.args.at c.loop-i.i (c.loop-i.i + 1) (omega arith) all))
    (subst
    (λ w. IsPacked w (g.V.CountedValues.values c.args.values.now) (c.args.at + c.loop-i.i) 1)
    (sym c.from.ensures)
    (packed-one c.guess.result (g.V.CountedValues.values c.args.values.now) (c.args.at + c.loop-i.i) (c.guess.ensures (all c.loop-i.i (omega arith)))))
