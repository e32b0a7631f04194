use Rattle.std.proofs.Common.{rules}
use Rattle.polars_compare_leaves.proofs.bytes.LessOrEqualByteComparison.compare.Goals as goal

pub returns : goal.returns
returns c = search rules
