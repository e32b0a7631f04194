use Rattle.std.proofs.Common.{rules}
use Rattle.polars_arrays_nested.proofs.Places.{places_of}
use Rattle.polars_arrays_nested.proofs.dict_keys.names_entry.Goals as goal

pub returns-in-Some : goal.returns-in-Some
returns-in-Some c = search (rules, places_of)
