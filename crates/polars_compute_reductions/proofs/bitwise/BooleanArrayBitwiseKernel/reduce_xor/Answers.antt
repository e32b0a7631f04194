use Rattle.std.proofs.Common.{◌%◌, ap, nat_eq}
use Rattle.polars_compute_reductions.specs.Bitwise.{is_odd}
use Rattle.polars_arrays_flat.specs.ArrayRows.{truth_rows}
use Rattle.polars_compute_reductions.proofs.TruthRows.{reduces_none, reduces_some}
use Rattle.polars_compute_reductions.proofs.bitwise.BooleanArrayBitwiseKernel.reduce_xor.Goals as goal

pub returns-then-present_rows-eq0 : goal.returns-then-present_rows-eq0
returns-then-present_rows-eq0 c =
    reduces_none (is_odd) (truth_rows c.args.self.now) c.present_rows.result c.present_rows.ensures c.if-present_rows-eq0.true

pub returns : goal.returns
returns c =
    reduces_some (is_odd) (truth_rows c.args.self.now) c.present_rows.result _ c.present_rows.ensures c.if-present_rows-eq0.false
    (ap (λ n. nat_eq (n % 2) 1) c.true_rows.ensures)
