use Rattle.std.proofs.Common.{ap, ◌∙◌, arith}
use Rattle.polars_arrays_words.specs.Bits.{window}
use Rattle.polars_arrays_bits.proofs.Windows.{window-replicate}
use Rattle.polars_arrays_bits.proofs.mutable_bitmap.MutableBitmap.filled.Goals as goal

pub returns : goal.returns
returns c =
    ap (λ ws. window 0 c.args.n ws) (c.in_ok-words.ensures.items_if_clones_equal (λ y same. same))
    ∙ window-replicate c.args.value c.div_ceil.result c.args.n _ (omega (arith, c.div_ceil.ensures)) c.filled_word.ensures
