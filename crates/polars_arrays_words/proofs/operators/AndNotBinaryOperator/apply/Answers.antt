use Rattle.polars_arrays_words.proofs.OperatorBits.{is_bit-and_not}
use Rattle.polars_arrays_words.proofs.operators.AndNotBinaryOperator.apply.Goals as goal

pub returns : goal.returns
returns c = λ i lt. is_bit-and_not c.args.x c.args.y i c.ranges.y.fits lt
