use Rattle.polars_compare_nested.proofs.KnownLists.{moved_bit}
use Rattle.polars_compare_nested.proofs.runs.Matches.skip.Goals as goal

pub returns-clause-bits : goal.returns-clause-bits
returns-clause-bits c = λ i. moved_bit c.args.self.now.word c.args.n i
