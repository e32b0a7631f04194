use Rattle.std.proofs.Common.{◌≡◌, List, Bool, MatchResult, subst}
use Rattle.polars_arrays_bits.specs.Errors.{IsMemory}
use Rattle.polars_arrays_bits.proofs.BlockPlaces.{window-blocks}
use Rattle.polars_arrays_bits.proofs.bit_mask.BitMask.all_in_pairs.Goals as goal

pub returns : goal.returns
returns c =
    subst (λ (xs : List Bool). MatchResult c.from_source.result (λ bits. bits ≡ xs) IsMemory)
    (window-blocks c.self.inside.words.now c.self.inside.at c.self.inside.len 2 c.args.n c.args.self.now c.self.view_is c.requires)
    c.from_source.ensures
