use Rattle.std.proofs.Common.{rules}
use Rattle.polars_arrays_words.proofs.source.count_window.Goals as goal

pub returns-else-by-eq0 : goal.returns-else-by-eq0
returns-else-by-eq0 c = search rules
