use Rattle.polars_compute_unique.proofs.Counted.{all-else, all-then}
use Rattle.polars_compute_unique.proofs.dictionary.DictionaryRangedUniqueStateRangedUniqueKernel.has_seen_all.Goals as goal

pub returns-then-counts : goal.returns-then-counts
returns-then-counts c = all-then _ c.read_counts-counts.result c.read_counts-counts.ensures.counted c.if-counts.true

pub returns-else-counts : goal.returns-else-counts
returns-else-counts c = all-else _ c.read_counts-counts.result c.read_counts-counts.ensures.counted c.if-counts.false
