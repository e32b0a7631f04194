use Rattle.std.proofs.Common.{◌≡◌, ◌+◌, ◌*◌, arith, subst, sym}
use Rattle.polars_arrays_bits.specs.Guesses.{AreSure}
use Rattle.polars_arrays_words.specs.Packing.{IsPacked}
use Rattle.polars_arrays_words.proofs.Puts.{packed-put}
use Rattle.polars_arrays_bits.proofs.SureGuesses.{sure-first, sure-next}
use Rattle.polars_arrays_bits.proofs.counting.guess_word.Goals as goal

pub loop-eight-preserved : goal.loop-eight-preserved
loop-eight-preserved g c = λ sure.
    let next : 8 * c.loop-eight.eight + 8 ≡ 8 * (c.loop-eight.eight + 1) = omega arith in
    let all : AreSure (g.V.CountedValues.sure c.args.values.now) c.args.at (8 * c.loop-eight.eight + 8) = subst (λ n. AreSure (g.V.CountedValues.sure c.args.values.now) c.args.at n) (sym next) sure in
    subst
    (λ n. IsPacked c.put-word.result (g.V.CountedValues.values c.args.values.now) c.args.at n)
    next
    (packed-put
    c.loop-eight.word c.guess_eight-byte.result c.put-word.result (g.V.CountedValues.values c.args.values.now) c.args.at (8 * c.loop-eight.eight) 8
    (omega arith) (omega arith)
    c.put-word.ensures.below c.put-word.ensures.above
    (c.loop-eight.invariant (sure-first (g.V.CountedValues.sure c.args.values.now) c.args.at (8 * c.loop-eight.eight) (8 * c.loop-eight.eight + 8) (omega arith) all))
    (c.guess_eight-byte.ensures (sure-next (g.V.CountedValues.sure c.args.values.now) c.args.at (8 * c.loop-eight.eight) 8 all)))
