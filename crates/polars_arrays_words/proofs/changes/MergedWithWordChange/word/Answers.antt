use Rattle.std.proofs.Common.{rules}
use Rattle.polars_arrays_words.proofs.changes.MergedWithWordChange.word.Goals as goal

pub returns : goal.returns
returns c = search rules
