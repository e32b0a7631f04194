use Rattle.std.proofs.Common.{arith, length, ap, ap₂, ◌∙◌}
use Rattle.polars_arrays_words.specs.Bits.{window}
use Rattle.polars_arrays_bits.proofs.Windows.{length_is}
use Rattle.polars_arrays_bits.proofs.bitmap.Bitmap.packed.Goals as goal

pub returns-clause-within : goal.returns-clause-within
returns-clause-within c =
    let long = length_is _ c.self.inside.len c.args.self.now c.self.view_is in
    omega (arith, ap length c.as_slice.ensures, c.self.invariant.1)

pub returns-clause-bits : goal.returns-clause-bits
returns-clause-bits c =
    ap₂ (λ ws n. window c.self.inside.at n ws) c.as_slice.ensures (length_is _ c.self.inside.len c.args.self.now c.self.view_is) ∙ c.self.view_is
