use Rattle.std.proofs.Common.{rules}
use Rattle.polars_arrays_numbers.proofs.steps.Steps.add.Goals as goal

pub returns : goal.returns
returns c = search rules
