use Rattle.polars_arrays_words.proofs.OperatorBits.{is_bit-merged_eq}
use Rattle.polars_arrays_words.proofs.operators.MergeEqTernaryOperator.apply.Goals as goal

pub returns : goal.returns
returns c = λ i lt. is_bit-merged_eq c.args.x c.args.y c.args.z i c.ranges.x.fits c.ranges.y.fits c.ranges.z.fits lt
