use Rattle.std.proofs.Common.{◌≡◌, ◌+◌, ◌-◌, ◌*◌, ◌∙◌, ◌<◌, ℕ, List, Bool, min, length, ap, arith}
use Rattle.polars_arrays_bits.specs.Costs.{cost_of}
use Rattle.polars_arrays_bits.proofs.CostSums.{cost-word}
use Rattle.polars_arrays_bits.proofs.WordValues.{are-words-more, word-values}
use Rattle.polars_arrays_bits.proofs.counting.push_counted.Goals as goal

pub loop-k-preserved : goal.loop-k-preserved
loop-k-preserved g c =
    let values : List Bool = g.V.CountedValues.values c.args.values.now in
    let costs : ℕ → ℕ = g.V.CountedValues.costs c.args.values.now in
    let k : ℕ = c.loop-k.k in
    let lt : 64 * k < length values = omega (arith, c.loop-k-test.true, c.requires.least) in
    let at : 64 * k ≡ min (64 * k) (length values) = omega (arith, lt) in
    let count : c.min.result ≡ min (length values - 64 * k) 64 = c.min.ensures ∙ ap (λ l. min (l - 64 * k) 64) c.len-len.ensures in
    record {
      words =
          are-words-more _ k c.count_word.result c.loop-k.words.items _ c.loop-k.invariant.words
          (word-values values k (64 * k) c.min.result c.count_word.result at count c.count_word.ensures.packed)
          c.push_reserved.ensures.items;
      counted =
          cost-word costs k (length values) c.args.steps.now c.loop-k.steps c.count_word.new.steps lt c.loop-k.invariant.counted
          (c.count_word.ensures.counted ∙ ap (λ n. c.loop-k.steps + cost_of costs (64 * k) n) count);
      room = c.push_reserved.ensures.capacity ∙ c.loop-k.invariant.room;
    }
