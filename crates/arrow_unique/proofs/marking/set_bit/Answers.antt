use Rattle.std.proofs.Common.{◌%◌, true, arith}
use Rattle.polars_arrays_words.proofs.WrittenBits.{written-bit, set_here, set_others}
use Rattle.arrow_unique.proofs.marking.set_bit.Goals as goal

pub returns : goal.returns
returns c =
    written-bit c.args.words.now c.args.p _ true c.requires (set_here _ (c.args.p % 64) (omega arith)) (λ i lt ne. set_others _ (c.args.p % 64) i (omega arith) ne)
