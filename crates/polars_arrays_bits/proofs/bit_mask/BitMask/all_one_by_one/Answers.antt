use Rattle.std.proofs.Common.{◌≡◌, List, Bool, MatchResult, subst}
use Rattle.polars_arrays_bits.specs.Errors.{IsMemory}
use Rattle.polars_arrays_bits.proofs.BlockPlaces.{window-blocks}
use Rattle.polars_arrays_bits.proofs.bit_mask.BitMask.all_one_by_one.Goals as goal

pub returns : goal.returns
returns c =
    subst (λ (xs : List Bool). MatchResult c.from_values.result (λ bits. bits ≡ xs) IsMemory)
    (window-blocks c.self.inside.words.now c.self.inside.at c.self.inside.len c.args.width c.args.n c.args.self.now c.self.view_is c.requires)
    c.from_values.ensures
