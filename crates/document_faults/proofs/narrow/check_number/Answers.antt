use Rattle.std.proofs.Common.{arith}
use Rattle.document_faults.proofs.NarrowLemmas.{short_narrow}
use Rattle.document_faults.proofs.narrow.check_number.Goals as goal

pub returns-then-text-le-MOST_DIGITS : goal.returns-then-text-le-MOST_DIGITS
returns-then-text-le-MOST_DIGITS c = short_narrow c.args.text.now (omega arith)
