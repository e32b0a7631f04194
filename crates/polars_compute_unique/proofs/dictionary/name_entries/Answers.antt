use Rattle.std.proofs.Common.{rules}
use Rattle.polars_compute_unique.proofs.dictionary.name_entries.Goals as goal

pub returns-in-None : goal.returns-in-None
returns-in-None c = search rules
