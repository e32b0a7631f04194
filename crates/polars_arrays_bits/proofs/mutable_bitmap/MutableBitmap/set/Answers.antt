use Rattle.std.proofs.Common.{◌+◌, ℕ, List, length, arith, ap, ◌∙◌, subst}
use Rattle.std.proofs.lemmas.List.{with_items_is}
use Rattle.polars_arrays_words.specs.Bits.{window, IsWritten}
use Rattle.polars_arrays_bits.proofs.Windows.{length_is}
use Rattle.polars_arrays_bits.proofs.WrittenWindows.{window-set}
use Rattle.polars_arrays_bits.proofs.mutable_bitmap.MutableBitmap.set.Goals as goal

pub write_bit-requires : goal.write_bit-requires
write_bit-requires c = omega (arith, length_is _ c.self.inside.len c.args.self.now c.self.view_is, ap length c.as_mut_slice.ensures.value)

pub returns : goal.returns
returns c =
    ap (λ ws. window 0 c.self.inside.len ws) (with_items_is c.self.inside.words c.write_bit.new.words (omega arith))
    ∙ window-set c.self.inside.words.items c.write_bit.new.words c.self.inside.len c.args.i c.args.value c.args.self.now c.self.view_is c.requires
    (subst (λ (ws : List ℕ). IsWritten ws c.write_bit.new.words c.args.i (c.args.i + 1) c.args.value) c.as_mut_slice.ensures.value c.write_bit.ensures)
