use Rattle.polars_arrays_words.proofs.Spreads.{gathered}
use Rattle.polars_arrays_words.proofs.folds.gather.Goals as goal

pub returns : goal.returns
returns c = λ i lt. gathered c.args.word c.args.by c.args.mask i
