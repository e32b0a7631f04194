use Rattle.std.proofs.Common.{◌≡◌, List, Bool, MatchResult, subst, refl}
use Rattle.polars_arrays_bits.specs.Errors.{IsMemory}
use Rattle.polars_arrays_bits.proofs.Windows.{aligned, shifted, zip3-last}
use Rattle.polars_arrays_bits.proofs.bit_mask.BitMask.merge_last.Goals as goal

pub returns-then-self-eq0 : goal.returns-then-self-eq0
returns-then-self-eq0 g c =
    subst (λ (xs : List Bool). MatchResult c.from_source.result (λ bits. bits ≡ xs) IsMemory)
    (zip3-last g.O.TernaryOperator.bit (g.A.BitSource.bit c.args.first) (g.B.BitSource.bit c.args.second) _ c.self.inside.len c.args.self.now (aligned c.self.inside.at c.self.inside.len c.self.inside.words.now c.self.inside.words.now c.args.self.now c.if-self-eq0.true refl c.self.view_is))
    c.from_source.ensures

pub returns : goal.returns
returns g c =
    subst (λ (xs : List Bool). MatchResult c.from_source-2.result (λ bits. bits ≡ xs) IsMemory)
    (zip3-last g.O.TernaryOperator.bit (g.A.BitSource.bit c.args.first) (g.B.BitSource.bit c.args.second) _ c.self.inside.len c.args.self.now (shifted c.self.inside.at c.self.inside.len c.self.inside.words.now c.self.inside.words.now c.args.self.now refl c.self.view_is))
    c.from_source-2.ensures
