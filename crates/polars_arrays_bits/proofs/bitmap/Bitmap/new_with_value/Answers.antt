use Rattle.std.proofs.Common.{ap, ◌∙◌, arith}
use Rattle.polars_arrays_words.specs.Bits.{window}
use Rattle.polars_arrays_bits.proofs.Windows.{window-replicate}
use Rattle.polars_arrays_bits.proofs.bitmap.Bitmap.new_with_value.Goals as goal

pub returns : goal.returns
returns c =
    c.from_vec.ensures
    ∙ ap (λ ws. window 0 c.args.len ws) (c.in_ok-words.ensures.items_if_clones_equal (λ y same. same))
    ∙ window-replicate c.args.value c.div_ceil.result c.args.len c.filled_word.result (omega (arith, c.div_ceil.ensures)) c.filled_word.ensures
