use Rattle.polars_compare_nested.proofs.MatchBits.{leading}
use Rattle.polars_compare_nested.proofs.spans.leading_bits.Goals as goal

pub returns-clause-ones : goal.returns-clause-ones
returns-clause-ones c = (leading c.args.word c.args.n _ c.ranges.word.fits c.requires (rw c.trailing_ones.ensures at c.min.ensures)).ones

pub returns-clause-end : goal.returns-clause-end
returns-clause-end c = (leading c.args.word c.args.n _ c.ranges.word.fits c.requires (rw c.trailing_ones.ensures at c.min.ensures)).end
