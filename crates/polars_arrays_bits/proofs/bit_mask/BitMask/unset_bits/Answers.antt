use Rattle.std.proofs.Common.{Bool, count_by, ap, ◌∙◌, arith}
use Rattle.polars_arrays_bits.proofs.Windows.{length_is, count_by-not}
use Rattle.polars_arrays_bits.proofs.bit_mask.BitMask.unset_bits.Goals as goal

pub overflow_sub-result : goal.overflow_sub-result
overflow_sub-result c =
    omega (arith, length_is _ c.self.inside.len c.args.self.now c.self.view_is, count_by-not c.args.self.now, c.count_window.ensures ∙ ap (count_by (λ (b : Bool). b)) c.self.view_is)

pub returns : goal.returns
returns c =
    omega (arith, length_is _ c.self.inside.len c.args.self.now c.self.view_is, count_by-not c.args.self.now, c.count_window.ensures ∙ ap (count_by (λ (b : Bool). b)) c.self.view_is)
