use Rattle.std.proofs.Common.{rules}
use Rattle.polars_compute_unique.proofs.dictionary.DictionaryRangedUniqueStateRangedUniqueKernel.accepts.Goals as goal

pub returns-in-UInt32 : goal.returns-in-UInt32
returns-in-UInt32 c = search rules
