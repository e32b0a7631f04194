use Rattle.std.proofs.Common.{length, sym, arith}
use Rattle.std.proofs.lemmas.Simd.{length-zip2}
use Rattle.polars_arrays_bits.proofs.WordValues.{first-packed}
use Rattle.polars_arrays_bits.proofs.slices.compare_few.Goals as goal

pub pack_few-requires-clause-within : goal.pack_few-requires-clause-within
pack_few-requires-clause-within g c =
    omega (arith, length-zip2 (g.E.Comparison.holds c.args.comparison.now) c.args.left.now c.args.right.now (sym c.requires.one_length))

pub returns-clause-bits : goal.returns-clause-bits
returns-clause-bits g c =
    first-packed _ (length c.args.left.now) c.pack_few.result
    (length-zip2 (g.E.Comparison.holds c.args.comparison.now) c.args.left.now c.args.right.now (sym c.requires.one_length))
    c.pack_few.ensures
