use Rattle.polars_compute_reductions.proofs.WordFlags.{half_flags}
use Rattle.polars_compute_reductions.proofs.flags.flags_of_32.Goals as goal

pub returns : goal.returns
returns c = half_flags c.args.word
