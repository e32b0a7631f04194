use Rattle.polars_arrays_words.proofs.OperatorBits.{is_bit_or}
use Rattle.polars_arrays_words.proofs.operators.OrBinaryOperator.apply.Goals as goal

pub returns : goal.returns
returns c = λ i lt. is_bit_or c.args.x c.args.y i
