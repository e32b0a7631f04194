use Rattle.std.proofs.Common.{sym, ◌∙◌}
use Rattle.polars_arrays_words.proofs.WrittenBits.{ones_bit, zeros_bit}
use Rattle.polars_arrays_words.proofs.words.filled_word.Goals as goal

pub returns-then-value : goal.returns-then-value
returns-then-value c = λ i lt. ones_bit i lt ∙ sym c.if-value.true

pub returns-else-value : goal.returns-else-value
returns-else-value c = λ i lt. zeros_bit i ∙ sym c.if-value.false
