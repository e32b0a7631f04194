use Rattle.std.proofs.Common.{ap, ◌∙◌}
use Rattle.std.proofs.Math.Dec.{leb}
use Rattle.polars_arrays_words.proofs.TrueRuns.{later-tells}
use Rattle.polars_arrays_words.proofs.runs.word_set.Goals as goal

pub returns : goal.returns
returns c = ap (leb c.args.n) c.trailing_ones.ensures ∙ later-tells c.args.word c.args.at c.args.n c.ranges.word.fits c.requires
