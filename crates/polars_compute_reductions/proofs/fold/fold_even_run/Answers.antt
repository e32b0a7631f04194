use Rattle.std.proofs.Common.{◌∙◌, List, ap, sym}
use Rattle.polars_arrays_flat.specs.Row.{Row}
use Rattle.polars_arrays_flat.specs.StoredRows.{number_slots}
use Rattle.polars_compute_reductions.specs.Folds.{folded}
use Rattle.polars_compute_reductions.proofs.CommonBits.{all-common}
use Rattle.polars_compute_reductions.proofs.FoldSteps.{length-slots, masked-all}
use Rattle.polars_compute_reductions.proofs.fold.fold_even_run.Goals as goal

pub returns-then-common_bits-eq18446744073709551615 : goal.returns-then-common_bits-eq18446744073709551615
returns-then-common_bits-eq18446744073709551615 g c =
    let rows : List Row = number_slots g.T.Number.value c.args.numbers.now in
    let long = c.requires.bits ∙ sym (length-slots g.T.Number.value c.args.numbers.now ∙ c.requires.run) in
    let all = all-common c.args.mask.now 2048 c.common_bits.result c.requires.bits c.if-common_bits-eq18446744073709551615.true c.common_bits.ensures in
    c.fold_all.ensures ∙ ap (λ (rs : List Row). folded g.O.Operator.joined (g.O.Operator.neutral c.args.operator.now) rs) (sym (masked-all c.args.mask.now rows long all))
