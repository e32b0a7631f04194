use Rattle.std.proofs.Common.{rules}
use Rattle.polars_arrays_numbers.proofs.dictionary_key.U64DictionaryKey.to_entry.Goals as goal

pub returns : goal.returns
returns c = search rules
