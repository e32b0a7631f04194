use Rattle.std.proofs.Common.{sym}
use Rattle.std.proofs.lemmas.Simd.{length-zip2}
use Rattle.arrow_arithmetic.proofs.values.PairedValuesComputed.count.Goals as goal

pub returns : goal.returns
returns g c =
    let pairs = c.args.self.now in
    sym (length-zip2 _ pairs.left.now pairs.right.now (sym pairs.one_length))
