use Rattle.polars_compare_nested.proofs.LeafRows.{number-bits}
use Rattle.polars_compare_nested.proofs.leaf_words.number_word.Goals as goal

pub returns : goal.returns
returns g c =
    number-bits g.T.Number.value c.args.left.now c.args.right.now c.args.a c.args.b c.args.n _ c.requires.left_in c.requires.right_in c.compare_few_numbers.ensures.bits
