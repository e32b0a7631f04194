use Rattle.polars_arrays_flat.specs.Row.{Int}
use Rattle.polars_compute_unique.proofs.Counted.{rows-counted}
use Rattle.polars_compute_unique.proofs.dictionary.DictionaryRangedUniqueStateRangedUniqueKernel.finalize_n_unique.Goals as goal

pub returns : goal.returns
returns c = rows-counted (λ v. Int v) _ c.read_counts-counts.result _ c.read_counts-counts.ensures.counted c.from.ensures
