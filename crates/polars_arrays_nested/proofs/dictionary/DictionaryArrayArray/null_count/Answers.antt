use Rattle.std.proofs.Common.{rules}
use Rattle.polars_arrays_nested.proofs.NullCounts.{nulls_counted}
use Rattle.polars_arrays_nested.proofs.dictionary.DictionaryArrayArray.null_count.Goals as goal

pub returns-in-Some-clause-nulls : goal.returns-in-Some-clause-nulls
returns-in-Some-clause-nulls c = search (rules, nulls_counted)
