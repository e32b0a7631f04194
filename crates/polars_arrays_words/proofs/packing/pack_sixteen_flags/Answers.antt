use Rattle.std.proofs.Common.{not, eqb, arith, ap, ◌∙◌}
use Rattle.std.proofs.lemmas.Simd.{bitmask_splat}
use mir.Syntax.{w8}
use Rattle.polars_arrays_words.specs.Bits.{is_bit}
use Rattle.polars_arrays_words.proofs.Packs.{is_bit-mask}
use Rattle.polars_arrays_words.proofs.packing.pack_sixteen_flags.Goals as goal

pub returns : goal.returns
returns c = λ i lt. ap (λ w. is_bit w i) (bitmask_splat w8 (λ x y. not (eqb x y)) c.args.flags.now 16 0 c.told-flags (omega arith)) ∙ is_bit-mask c.args.flags.now i
