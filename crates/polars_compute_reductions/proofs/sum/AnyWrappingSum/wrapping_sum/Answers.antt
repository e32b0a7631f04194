use Rattle.std.proofs.Common.{◌∙◌}
use Rattle.num_traits.specs.Laws.{bit_len}
use Rattle.polars_arrays_flat.specs.StoredRows.{number_slots}
use Rattle.polars_compute_reductions.specs.SumLaws.{folded-total}
use Rattle.polars_compute_reductions.proofs.sum.AnyWrappingSum.wrapping_sum.Goals as goal

pub returns : goal.returns
returns g c =
    c.fold_all.ensures ∙ folded-total g.T.Bounded.low (bit_len g.T.FixedWidth.width) (number_slots g.T.Number.value c.args.vals.now)
