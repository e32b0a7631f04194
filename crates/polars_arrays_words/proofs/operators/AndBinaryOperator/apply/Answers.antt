use Rattle.polars_arrays_words.proofs.OperatorBits.{is_bit_and}
use Rattle.polars_arrays_words.proofs.operators.AndBinaryOperator.apply.Goals as goal

pub returns : goal.returns
returns c = λ i lt. is_bit_and c.args.x c.args.y i
