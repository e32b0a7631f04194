use Rattle.std.proofs.Common.{rules}
use Rattle.polars_arrays_flat.proofs.NullCounts.{nulls_counted}
use Rattle.polars_arrays_flat.proofs.validity.null_count.Goals as goal

pub returns-in-Some-clause-masked : goal.returns-in-Some-clause-masked
returns-in-Some-clause-masked c = search (rules, nulls_counted)
