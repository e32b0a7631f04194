use Rattle.std.proofs.Common.{◌≡◌, List, Bool, MatchResult, subst, refl}
use Rattle.polars_arrays_bits.specs.Errors.{IsMemory}
use Rattle.polars_arrays_bits.proofs.Windows.{shifted, zip3-last_two}
use Rattle.polars_arrays_bits.proofs.bit_mask.BitMask.merge_placed.Goals as goal

pub returns : goal.returns
returns g c =
    subst (λ (xs : List Bool). MatchResult c.from_source.result (λ bits. bits ≡ xs) IsMemory)
    (zip3-last_two g.O.TernaryOperator.bit (g.A.BitSource.bit c.args.first) _ _ c.self.inside.len c.third.inside.len c.args.self.now c.args.third.now
    (shifted c.self.inside.at c.self.inside.len c.self.inside.words.now c.self.inside.words.now c.args.self.now refl c.self.view_is)
    (shifted c.third.inside.at c.third.inside.len c.third.inside.words.now c.third.inside.words.now c.args.third.now refl c.third.view_is)
    c.requires)
    c.from_source.ensures
