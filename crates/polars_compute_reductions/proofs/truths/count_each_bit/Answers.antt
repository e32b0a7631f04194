use Rattle.std.proofs.Common.{rules, ◌∙◌, sym}
use Rattle.std.proofs.lemmas.Option.{get_or_from_slice_get}
use Rattle.polars_compute_reductions.specs.Bitwise.{truth_count}
use Rattle.polars_compute_reductions.proofs.CountedRows.{map_more}
use Rattle.polars_compute_reductions.proofs.truths.count_each_bit.Goals as goal

pub loop-i-preserved : goal.loop-i-preserved
loop-i-preserved c = record {
  counted =
      c.push_reserved.ensures.items
      ∙ map_more (truth_count c.args.ones) c.args.bits.now c.loop-i.i c.get_bit.result _ _
      (search rules) (sym (get_or_from_slice_get c.args.bits.now c.loop-i.i c.get_bit.result c.get_bit.result c.get_bit.ensures)) c.loop-i.invariant.counted c.count_bit.ensures;
  so_far = search rules;
  room = search rules;
}
