use Rattle.std.proofs.Common.{◌∙◌, ℕ, ap}
use Rattle.num_traits.specs.Laws.{bit_len}
use Rattle.polars_arrays_words.specs.Bits.{first_of, is_bit}
use Rattle.polars_compute_reductions.proofs.BitCounts.{leading_ones-are}
use Rattle.polars_compute_reductions.proofs.BitSteps.{is_pattern, is_small}
use Rattle.polars_compute_reductions.specs.Bitwise.{leading_run}
use Rattle.polars_compute_reductions.proofs.bit_counts.LeadingOnesBitCount.count.Goals as goal

pub returns : goal.returns
returns g c =
    let width = bit_len g.T.FixedWidth.width in
    let law = g.met.T.FixedWidth.bits_of_law c.args.number c.law_fits.ensures in
    c.leading_ones.ensures
    ∙ leading_ones-are g.T.FixedWidth.width (g.T.FixedWidth.bits_of c.args.number) (is_small width _ _ law)
    ∙ ap (λ (x : ℕ). leading_run (λ b. b) (first_of (is_bit x) width)) (is_pattern width _ _ law)
