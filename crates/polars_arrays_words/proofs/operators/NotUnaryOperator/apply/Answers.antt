use Rattle.polars_arrays_words.proofs.OperatorBits.{is_bit_not}
use Rattle.polars_arrays_words.proofs.operators.NotUnaryOperator.apply.Goals as goal

pub returns : goal.returns
returns c = λ i lt. is_bit_not c.args.x i c.ranges.x.fits lt
