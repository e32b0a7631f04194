use Rattle.std.proofs.Common.{◌*◌, length, refl, ap, ◌∙◌, arith}
use Rattle.polars_arrays_words.specs.Blocks.{blocks_all}
use Rattle.polars_arrays_bits.proofs.BlockPlaces.{length-blocks}
use Rattle.polars_arrays_bits.proofs.NestedBlocks.{blocks-nested}
use Rattle.polars_arrays_bits.proofs.bit_mask.BitMask.all_in_eights.Goals as goal

pub all_in_pairs-requires : goal.all_in_pairs-requires
all_in_pairs-requires c = omega (arith, ap length (c.from_bitmap.ensures ∙ c.in_ok-fours.ensures), length-blocks 4 (2 * c.args.n) c.args.self.now)

pub returns : goal.returns
returns c =
    c.in_ok-eights.ensures
    ∙ ap (blocks_all 2 c.args.n) (c.from_bitmap.ensures ∙ c.in_ok-fours.ensures)
    ∙ blocks-nested 4 2 c.args.n (2 * c.args.n) c.args.self.now refl
