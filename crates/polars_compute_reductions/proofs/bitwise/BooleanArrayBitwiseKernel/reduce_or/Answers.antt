use Rattle.std.proofs.Common.{◌∙◌, ap, nat_lt}
use Rattle.std.specs.List.{list_any}
use Rattle.polars_arrays_flat.specs.ArrayRows.{truth_rows}
use Rattle.polars_compute_reductions.specs.Bitwise.{place_bits}
use Rattle.polars_compute_reductions.proofs.TruthRows.{any-test, reduces_none, reduces_some}
use Rattle.polars_compute_reductions.proofs.bitwise.BooleanArrayBitwiseKernel.reduce_or.Goals as goal

pub returns-then-present_rows-eq0 : goal.returns-then-present_rows-eq0
returns-then-present_rows-eq0 c =
    reduces_none (list_any (λ b. b)) (truth_rows c.args.self.now) c.present_rows.result c.present_rows.ensures c.if-present_rows-eq0.true

pub returns : goal.returns
returns c =
    reduces_some (list_any (λ b. b)) (truth_rows c.args.self.now) c.present_rows.result _ c.present_rows.ensures c.if-present_rows-eq0.false
    (ap (nat_lt 0) c.true_rows.ensures ∙ any-test (place_bits 1 0 (truth_rows c.args.self.now)))
