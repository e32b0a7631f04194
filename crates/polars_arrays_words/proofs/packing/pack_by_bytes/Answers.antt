use Rattle.std.proofs.Common.{◌≡◌, ◌+◌, ◌-◌, ◌*◌, ◌%◌, arith, subst}
use Rattle.polars_arrays_words.specs.Packing.{IsPacked}
use Rattle.polars_arrays_words.proofs.Puts.{packed-put}
use Rattle.polars_arrays_words.proofs.packing.pack_by_bytes.Goals as goal

pub loop-eight-preserved : goal.loop-eight-preserved
loop-eight-preserved g c =
    let next : 8 * c.loop-eight.eight + 8 ≡ 8 * (c.loop-eight.eight + 1) = omega arith in
    subst
    (λ n. IsPacked c.put-word.result (g.V.TruthValues.values c.args.values.now) c.args.at n)
    next
    (packed-put
    c.loop-eight.word c.pack_bits.result c.put-word.result (g.V.TruthValues.values c.args.values.now) c.args.at (8 * c.loop-eight.eight) 8 (omega arith)
    (omega arith)
    c.put-word.ensures.below c.put-word.ensures.above c.loop-eight.invariant c.pack_bits.ensures)

pub returns-then-rest-gt0 : goal.returns-then-rest-gt0
returns-then-rest-gt0 g c =
    let done : 8 * c.loop-eight.eight ≡ c.args.count - c.args.count % 8 = omega arith in
    let all : c.args.count - c.args.count % 8 + c.args.count % 8 ≡ c.args.count = omega arith in
    subst
    (λ n. IsPacked c.put-word-then-rest-gt0.result (g.V.TruthValues.values c.args.values.now) c.args.at n)
    all
    (packed-put
    c.loop-eight.word c.pack_bits-then-rest-gt0.result c.put-word-then-rest-gt0.result (g.V.TruthValues.values c.args.values.now) c.args.at
    (c.args.count - c.args.count % 8) (c.args.count % 8) (omega arith) (omega arith)
    c.put-word-then-rest-gt0.ensures.below c.put-word-then-rest-gt0.ensures.above
    (subst (λ n. IsPacked c.loop-eight.word (g.V.TruthValues.values c.args.values.now) c.args.at n) done c.loop-eight.invariant)
    c.pack_bits-then-rest-gt0.ensures)
