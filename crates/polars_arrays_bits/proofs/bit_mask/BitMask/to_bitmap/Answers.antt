use Rattle.std.proofs.Common.{◌≡◌, List, Bool, MatchResult, subst, refl}
use Rattle.polars_arrays_bits.specs.Errors.{IsMemory}
use Rattle.polars_arrays_bits.proofs.Windows.{aligned, shifted}
use Rattle.polars_arrays_bits.proofs.bit_mask.BitMask.to_bitmap.Goals as goal

pub returns-then-self-eq0 : goal.returns-then-self-eq0
returns-then-self-eq0 c =
    subst (λ (xs : List Bool). MatchResult c.from_source.result (λ bits. bits ≡ xs) IsMemory)
    (aligned c.self.inside.at c.self.inside.len c.self.inside.words.now c.self.inside.words.now c.args.self.now c.if-self-eq0.true refl c.self.view_is)
    c.from_source.ensures

pub returns : goal.returns
returns c =
    subst (λ (xs : List Bool). MatchResult c.from_source-2.result (λ bits. bits ≡ xs) IsMemory)
    (shifted c.self.inside.at c.self.inside.len c.self.inside.words.now c.self.inside.words.now c.args.self.now refl c.self.view_is)
    c.from_source-2.ensures
