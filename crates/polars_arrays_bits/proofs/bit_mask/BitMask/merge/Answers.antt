use Rattle.std.proofs.Common.{◌≡◌, List, Bool, MatchResult, ap, subst, refl}
use Rattle.polars_arrays_words.specs.Bits.{zip3}
use Rattle.polars_arrays_bits.specs.Errors.{IsMemory}
use Rattle.polars_arrays_bits.proofs.Windows.{aligned, shifted, first-as_long}
use Rattle.polars_arrays_bits.proofs.bit_mask.BitMask.merge.Goals as goal

pub returns-then-self-eq0 : goal.returns-then-self-eq0
returns-then-self-eq0 g c =
    subst (λ (xs : List Bool). MatchResult c.merge_last_two.result (λ bits. bits ≡ xs) IsMemory)
    (ap (λ (xs : List Bool). zip3 g.O.TernaryOperator.bit xs c.args.left.now c.args.right.now) (first-as_long _ _ _ c.args.self.now (aligned c.self.inside.at c.self.inside.len c.self.inside.words.now c.self.inside.words.now c.args.self.now c.if-self-eq0.true refl c.self.view_is) c.requires.left))
    c.merge_last_two.ensures

pub returns : goal.returns
returns g c =
    subst (λ (xs : List Bool). MatchResult c.merge_last_two-2.result (λ bits. bits ≡ xs) IsMemory)
    (ap (λ (xs : List Bool). zip3 g.O.TernaryOperator.bit xs c.args.left.now c.args.right.now) (first-as_long _ _ _ c.args.self.now (shifted c.self.inside.at c.self.inside.len c.self.inside.words.now c.self.inside.words.now c.args.self.now refl c.self.view_is) c.requires.left))
    c.merge_last_two-2.ensures
