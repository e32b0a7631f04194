use Rattle.polars_arrays_words.proofs.FourFolds.{folded-fours}
use Rattle.polars_arrays_words.proofs.folds.fold_fours.Goals as goal

pub returns : goal.returns
returns c =
    folded-fours c.args.word c.gather-answers.result c.gather-answers-2.result c.gather-answers-3.result c.gather.result
    c.gather-answers.ensures c.gather-answers-2.ensures c.gather-answers-3.ensures c.gather.ensures
