use Rattle.std.proofs.Common.{◌∙◌, ◌&&◌, Bool, List, ap, count_by}
use Rattle.std.specs.Simd.Lanes.{zip2}
use Rattle.polars_compute_reductions.proofs.TruthRows.{true-none, true-some}
use Rattle.polars_compute_reductions.proofs.truths.true_rows.Goals as goal

pub returns-in-Some : goal.returns-in-Some
returns-in-Some c =
    c.num_intersections_with.ensures
    ∙ ap (λ (values : List Bool). count_by (λ b. b) (zip2 ◌&&◌ values c.in-Some.validity.now)) c.values.ensures
    ∙ true-some c.args.array.now.validity c.args.array.now.values c.in-Some.validity.now c.in-Some.ensures.validity c.in-Some.ensures.bits

pub returns-in-None : goal.returns-in-None
returns-in-None c =
    c.set_bits.ensures
    ∙ ap (count_by (λ b. b)) c.values-in-None.ensures
    ∙ true-none c.args.array.now.validity c.args.array.now.values c.in-None.ensures.validity
