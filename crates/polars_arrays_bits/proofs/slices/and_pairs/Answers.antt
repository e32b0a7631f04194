use Rattle.std.proofs.Common.{sym, ◌∙◌}
use Rattle.std.proofs.lemmas.Simd.{length-zip2}
use Rattle.polars_arrays_bits.proofs.slices.and_pairs.Goals as goal

pub and_assign_values-requires : goal.and_assign_values-requires
and_assign_values-requires g c =
    length-zip2 (g.E.Comparison.holds c.args.comparison.now) c.args.left.now c.args.right.now (sym c.requires.one_length) ∙ c.requires.as_many
