use Rattle.std.proofs.Common.{◌≡◌, ◌+◌, ◌-◌, ◌*◌, arith, subst}
use Rattle.polars_arrays_words.specs.Packing.{IsPacked}
use Rattle.polars_arrays_words.proofs.Puts.{packed-over, packed-put}
use Rattle.polars_arrays_words.proofs.packing.pack_by_sixteens.Goals as goal

pub loop-sixteen-preserved : goal.loop-sixteen-preserved
loop-sixteen-preserved g c =
    let next : 16 * c.loop-sixteen.sixteen + 16 ≡ 16 * (c.loop-sixteen.sixteen + 1) = omega arith in
    subst
    (λ n. IsPacked c.put-word.result (g.V.TruthValues.values c.args.values.now) c.args.at n)
    next
    (packed-put
    c.loop-sixteen.word c.pack_sixteen-more.result c.put-word.result (g.V.TruthValues.values c.args.values.now) c.args.at (16 * c.loop-sixteen.sixteen) 16 (omega arith)
    (omega arith)
    c.put-word.ensures.below c.put-word.ensures.above c.loop-sixteen.invariant c.pack_sixteen-more.ensures)

pub returns-then-count-gt0 : goal.returns-then-count-gt0
returns-then-count-gt0 g c =
    let all : c.args.count - 16 + 16 ≡ c.args.count = omega (arith, c.requires.some) in
    subst
    (λ n. IsPacked c.put-word-then-count-gt0.result (g.V.TruthValues.values c.args.values.now) c.args.at n)
    all
    (packed-over
    c.loop-sixteen.word c.pack_sixteen-last.result c.put-word-then-count-gt0.result (g.V.TruthValues.values c.args.values.now) c.args.at (c.args.count - 16)
    (16 * c.loop-sixteen.sixteen) 16 (omega arith) (omega arith) (omega arith) (omega arith)
    c.put-word-then-count-gt0.ensures.below c.put-word-then-count-gt0.ensures.above c.loop-sixteen.invariant c.pack_sixteen-last.ensures)
