use Rattle.std.proofs.Common.{◌*◌, length, refl, ap, ◌∙◌, arith}
use Rattle.polars_arrays_words.specs.Blocks.{blocks_all}
use Rattle.polars_arrays_bits.proofs.BlockPlaces.{length-blocks}
use Rattle.polars_arrays_bits.proofs.NestedBlocks.{blocks-nested}
use Rattle.polars_arrays_bits.proofs.bit_mask.BitMask.all_in_sixteens.Goals as goal

pub all_in_fours-requires-2 : goal.all_in_fours-requires-2
all_in_fours-requires-2 c = omega (arith, ap length (c.from_bitmap.ensures ∙ c.in_ok-fours.ensures), length-blocks 4 (4 * c.args.n) c.args.self.now)

pub returns : goal.returns
returns c =
    c.in_ok-sixteens.ensures
    ∙ ap (blocks_all 4 c.args.n) (c.from_bitmap.ensures ∙ c.in_ok-fours.ensures)
    ∙ blocks-nested 4 4 c.args.n (4 * c.args.n) c.args.self.now refl
