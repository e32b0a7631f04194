use Rattle.std.proofs.Common.{◌∙◌, ap₂, nat_eq}
use Rattle.std.specs.List.{list_all}
use Rattle.polars_arrays_flat.specs.ArrayRows.{truth_rows}
use Rattle.polars_compute_reductions.specs.Bitwise.{place_bits}
use Rattle.polars_compute_reductions.proofs.TruthRows.{all-test, reduces_none, reduces_some}
use Rattle.polars_compute_reductions.proofs.bitwise.BooleanArrayBitwiseKernel.reduce_and.Goals as goal

pub returns-then-present-eq0 : goal.returns-then-present-eq0
returns-then-present-eq0 c =
    reduces_none (list_all (λ b. b)) (truth_rows c.args.self.now) c.present_rows-present.result c.present_rows-present.ensures c.if-present-eq0.true

pub returns : goal.returns
returns c =
    reduces_some (list_all (λ b. b)) (truth_rows c.args.self.now) c.present_rows-present.result _ c.present_rows-present.ensures c.if-present-eq0.false
    (ap₂ nat_eq c.true_rows.ensures c.present_rows-present.ensures ∙ all-test (place_bits 1 0 (truth_rows c.args.self.now)))
