use Rattle.polars_compute_reductions.proofs.WordFlags.{quarter_flags}
use Rattle.polars_compute_reductions.proofs.flags.flags_of_16.Goals as goal

pub returns : goal.returns
returns c = quarter_flags c.args.word
