use Rattle.std.proofs.Common.{rules}
use Rattle.polars_arrays_nested.proofs.dict_keys.is_good_key.Goals as goal

pub returns-then-is_present : goal.returns-then-is_present
returns-then-is_present c = search rules
