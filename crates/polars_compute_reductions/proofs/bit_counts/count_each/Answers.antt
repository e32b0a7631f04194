use Rattle.std.proofs.Common.{rules, ◌∙◌}
use Rattle.num_traits.specs.Laws.{bit_len}
use Rattle.polars_compute_reductions.specs.Bitwise.{number_bits}
use Rattle.polars_compute_reductions.proofs.CountedRows.{map_more}
use Rattle.polars_compute_reductions.proofs.bit_counts.count_each.Goals as goal

pub loop-number-preserved : goal.loop-number-preserved
loop-number-preserved g c = record {
  counted =
      c.push_reserved.ensures.items
      ∙ map_more (λ x. g.C.BitCount.amount (number_bits (bit_len g.T.FixedWidth.width) (g.T.Number.value x))) c.args.numbers.now c.loop-number.number-index _ _ _
      c.loop-number-test.true c.number-item.is c.loop-number.invariant.counted c.count.ensures;
  so_far = search rules;
  room = search rules;
}
