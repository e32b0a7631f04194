use Rattle.polars_arrays_words.proofs.Counts.{true_count-four}
use Rattle.polars_arrays_words.proofs.source.count_four_words.Goals as goal

pub returns : goal.returns
returns g c =
    true_count-four (g.S.BitSource.bit c.args.source.now) c.args.k _ _ _ _ c.inner_word-first.ensures c.inner_word-first.type_inv c.inner_word-second.ensures c.inner_word-second.type_inv c.inner_word-third.ensures c.inner_word-third.type_inv c.inner_word-fourth.ensures c.inner_word-fourth.type_inv
