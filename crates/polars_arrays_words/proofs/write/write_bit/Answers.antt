use Rattle.std.proofs.Common.{◌%◌, ap, sym, ◌∙◌, arith}
use Rattle.polars_arrays_words.specs.Bits.{is_bit}
use Rattle.polars_arrays_words.proofs.WrittenBits.{written-bit, set_here, set_others, cleared_here, cleared_others}
use Rattle.polars_arrays_words.proofs.write.write_bit.Goals as goal
use Rattle.polars_arrays_words.proofs.write.write_bit.Goals.{then-value, else-value}

pub returns : goal.returns
returns c =
    elim c.if-value.branch [
      | then-value w ↦
          written-bit c.args.words.now c.args.p c.if-value.words c.args.value c.requires
          (ap (λ y. is_bit y (c.args.p % 64)) w.words-is ∙ set_here _ (c.args.p % 64) (omega arith) ∙ sym w.if-value.true)
          (λ i lt ne. ap (λ y. is_bit y i) w.words-is ∙ set_others _ (c.args.p % 64) i (omega arith) ne)
      | else-value w ↦
          written-bit c.args.words.now c.args.p c.if-value.words c.args.value c.requires
          (ap (λ y. is_bit y (c.args.p % 64)) w.words-is ∙ cleared_here _ (c.args.p % 64) (omega arith) ∙ sym w.if-value.false)
          (λ i lt ne. ap (λ y. is_bit y i) w.words-is ∙ cleared_others _ (c.args.p % 64) i (omega arith) lt ne)
    ]
