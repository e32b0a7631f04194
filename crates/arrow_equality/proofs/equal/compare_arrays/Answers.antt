use Rattle.std.proofs.lemmas.Result.{IfErr-weaker}
use Rattle.arrow_parts.specs.Refusals.{IsMemoryFailure}
use Rattle.arrow_equality.proofs.Comparisons.{memory-pair}
use Rattle.arrow_equality.specs.Compared.{IsRefusedPair}
use Rattle.arrow_equality.proofs.equal.compare_arrays.Goals as goal

pub returns-clause-refused : goal.returns-clause-refused
returns-clause-refused c =
    IfErr-weaker c.compare.result IsMemoryFailure (IsRefusedPair c.args.left.now c.args.right.now) (memory-pair c.args.left.now c.args.right.now) c.compare.ensures.refused
