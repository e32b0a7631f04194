use Rattle.std.proofs.Common.{◌≡◌, ◌+◌, ◌-◌, sym, subst, arith}
use Rattle.polars_arrays_words.specs.Packing.{IsPacked}
use Rattle.polars_arrays_words.proofs.Puts.{packed-one, packed-put}
use Rattle.polars_arrays_words.proofs.packing.pack_bits.Goals as goal

pub loop-i-preserved : goal.loop-i-preserved
loop-i-preserved g c =
    let place : c.args.at + (c.args.count - 1 - c.loop-i.i) ≡ c.args.at + (c.args.count - (c.loop-i.i + 1)) = omega arith in
    let behind : c.args.at + (c.args.count - c.loop-i.i) ≡ c.args.at + (c.args.count - 1 - c.loop-i.i) + 1 = omega arith in
    let one_more : 1 + c.loop-i.i ≡ c.loop-i.i + 1 = omega arith in
    subst
    (λ p. IsPacked c.put-word.result (g.V.TruthValues.values c.args.values.now) p (c.loop-i.i + 1))
    place
    (subst
    (λ n. IsPacked c.put-word.result (g.V.TruthValues.values c.args.values.now) (c.args.at + (c.args.count - 1 - c.loop-i.i)) n)
    one_more
    (packed-put
    c.from.result c.loop-i.word c.put-word.result (g.V.TruthValues.values c.args.values.now) (c.args.at + (c.args.count - 1 - c.loop-i.i)) 1 c.loop-i.i (omega arith) (omega arith)
    c.put-word.ensures.below c.put-word.ensures.above
    (subst
    (λ w. IsPacked w (g.V.TruthValues.values c.args.values.now) (c.args.at + (c.args.count - 1 - c.loop-i.i)) 1)
    (sym c.from.ensures)
    (packed-one c.value-value.result (g.V.TruthValues.values c.args.values.now) (c.args.at + (c.args.count - 1 - c.loop-i.i)) c.value-value.ensures))
    (subst (λ p. IsPacked c.loop-i.word (g.V.TruthValues.values c.args.values.now) p c.loop-i.i) behind c.loop-i.invariant)))
