use Rattle.std.proofs.Common.{◌≡◌, List, Bool, MatchResult, ap, ap₂, subst, refl}
use Rattle.polars_arrays_words.specs.Bits.{first_of, zip3}
use Rattle.polars_arrays_bits.specs.Errors.{IsMemory}
use Rattle.polars_arrays_bits.proofs.Windows.{aligned, shifted, first-as_long}
use Rattle.polars_arrays_bits.proofs.bit_mask.BitMask.merge_last_two.Goals as goal

pub returns-then-self-eq0 : goal.returns-then-self-eq0
returns-then-self-eq0 g c =
    subst (λ (xs : List Bool). MatchResult c.merge_last.result (λ bits. bits ≡ xs) IsMemory)
    (ap₂ (λ (xs ys : List Bool). zip3 g.O.TernaryOperator.bit xs ys c.args.third.now) (ap (first_of (g.A.BitSource.bit c.args.first)) c.requires) (first-as_long _ _ _ c.args.self.now (aligned c.self.inside.at c.self.inside.len c.self.inside.words.now c.self.inside.words.now c.args.self.now c.if-self-eq0.true refl c.self.view_is) c.requires))
    c.merge_last.ensures

pub returns : goal.returns
returns g c =
    subst (λ (xs : List Bool). MatchResult c.merge_last-2.result (λ bits. bits ≡ xs) IsMemory)
    (ap₂ (λ (xs ys : List Bool). zip3 g.O.TernaryOperator.bit xs ys c.args.third.now) (ap (first_of (g.A.BitSource.bit c.args.first)) c.requires) (first-as_long _ _ _ c.args.self.now (shifted c.self.inside.at c.self.inside.len c.self.inside.words.now c.self.inside.words.now c.args.self.now refl c.self.view_is) c.requires))
    c.merge_last-2.ensures
