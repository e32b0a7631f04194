use Rattle.std.proofs.Common.{rules}
use Rattle.polars_compute_slots.proofs.reading.ReadCounts.add.Goals as goal

pub returns-clause-has_null : goal.returns-clause-has_null
returns-clause-has_null c = search rules
