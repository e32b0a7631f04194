use Rattle.std.proofs.Common.{arith, ap, ◌∙◌}
use Rattle.polars_arrays_words.specs.Bits.{window}
use Rattle.polars_arrays_bits.proofs.Windows.{length_is}
use Rattle.polars_arrays_bits.proofs.bit_mask.BitMask.packed.Goals as goal

pub returns-clause-within : goal.returns-clause-within
returns-clause-within c =
    let long = length_is _ c.self.inside.len c.args.self.now c.self.view_is in
    omega (arith, c.self.invariant.1)

pub returns-clause-bits : goal.returns-clause-bits
returns-clause-bits c =
    ap (λ n. window c.self.inside.at n c.self.inside.words.now) (length_is _ c.self.inside.len c.args.self.now c.self.view_is) ∙ c.self.view_is
