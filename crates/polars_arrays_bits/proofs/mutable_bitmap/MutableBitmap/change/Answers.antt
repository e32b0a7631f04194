use Rattle.std.proofs.Common.{ap, ◌∙◌, arith}
use Rattle.std.proofs.lemmas.List.{with_items_is}
use Rattle.polars_arrays_words.specs.Bits.{window}
use Rattle.polars_arrays_bits.proofs.WrittenWindows.{window-changed}
use Rattle.polars_arrays_bits.proofs.mutable_bitmap.MutableBitmap.change.Goals as goal

pub returns : goal.returns
returns g c =
    let n = c.self.inside.len in
    ap (λ ws. window 0 n ws) (with_items_is c.self.inside.words c.change_words.new.words (omega (arith, c.change_words.ensures.count, c.change_inner_words.ensures.count)))
    ∙ window-changed _ c.as_mut_slice-words.result.now c.change_inner_words.new.words c.change_words.new.words c.min-inner.result c.div_ceil-count.result n c.args.self.now
    (ap (λ ws. window 0 n ws) c.as_mut_slice-words.ensures.value ∙ c.self.view_is) c.change_inner_words.ensures c.change_words.ensures (omega (arith, c.div_ceil-count.ensures))
