use Rattle.polars_arrays_words.proofs.OperatorBits.{is_bit_xnor}
use Rattle.polars_arrays_words.proofs.operators.XnorBinaryOperator.apply.Goals as goal

pub returns : goal.returns
returns c = λ i lt. is_bit_xnor c.args.x c.args.y i c.ranges.y.fits lt
