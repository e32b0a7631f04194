use Rattle.std.proofs.Common.{rules}
use Rattle.polars_compute_unique.proofs.NullKeys.{null_keys}
use Rattle.polars_compute_unique.proofs.dictionary.EntryNullsNullValues.stands_for_null.Goals as goal

pub returns-then-key-len : goal.returns-then-key-len
returns-then-key-len c = search (rules, null_keys)
