use Rattle.std.proofs.Common.{sym}
use Rattle.std.proofs.lemmas.Simd.{length-zip2}
use Rattle.polars_arrays_bits.proofs.slices.SlicePairsTruthValues.len.Goals as goal

pub returns : goal.returns
returns g c =
    let pairs = c.args.self.now in
    sym (length-zip2 (g.E.Comparison.holds pairs.comparison.now) pairs.left.now pairs.right.now (sym pairs.one_length))
