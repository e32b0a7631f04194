use Rattle.std.proofs.Common.{◌≡◌, List, Bool, MatchResult, ap, subst, refl}
use Rattle.std.specs.Simd.Lanes.{zip2}
use Rattle.polars_arrays_bits.specs.Errors.{IsMemory}
use Rattle.polars_arrays_bits.proofs.Windows.{aligned, shifted, first-as_long}
use Rattle.polars_arrays_bits.proofs.bit_mask.BitMask.zip.Goals as goal

pub returns-then-self-eq0 : goal.returns-then-self-eq0
returns-then-self-eq0 g c =
    subst (λ (xs : List Bool). MatchResult c.zip_last.result (λ bits. bits ≡ xs) IsMemory)
    (ap (λ (xs : List Bool). zip2 g.O.BinaryOperator.bit xs c.args.other.now) (first-as_long _ _ _ c.args.self.now (aligned c.self.inside.at c.self.inside.len c.self.inside.words.now c.self.inside.words.now c.args.self.now c.if-self-eq0.true refl c.self.view_is) c.requires))
    c.zip_last.ensures

pub returns : goal.returns
returns g c =
    subst (λ (xs : List Bool). MatchResult c.zip_last-2.result (λ bits. bits ≡ xs) IsMemory)
    (ap (λ (xs : List Bool). zip2 g.O.BinaryOperator.bit xs c.args.other.now) (first-as_long _ _ _ c.args.self.now (shifted c.self.inside.at c.self.inside.len c.self.inside.words.now c.self.inside.words.now c.args.self.now refl c.self.view_is) c.requires))
    c.zip_last-2.ensures
