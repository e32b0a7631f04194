use Rattle.polars_arrays_words.proofs.OperatorBits.{is_bit_xor}
use Rattle.polars_arrays_words.proofs.operators.XorBinaryOperator.apply.Goals as goal

pub returns : goal.returns
returns c = λ i lt. is_bit_xor c.args.x c.args.y i
