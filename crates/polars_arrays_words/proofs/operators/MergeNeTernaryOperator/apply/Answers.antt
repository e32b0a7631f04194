use Rattle.polars_arrays_words.proofs.OperatorBits.{is_bit-merged_ne}
use Rattle.polars_arrays_words.proofs.operators.MergeNeTernaryOperator.apply.Goals as goal

pub returns : goal.returns
returns c = λ i lt. is_bit-merged_ne c.args.x c.args.y c.args.z i
