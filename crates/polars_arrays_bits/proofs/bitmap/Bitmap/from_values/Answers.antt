use Rattle.std.proofs.Common.{◌≡◌, ◌∙◌, List, Bool, ℕ, false, MatchResult, get_or, subst, ap}
use Rattle.polars_arrays_words.specs.Bits.{first_of}
use Rattle.polars_arrays_bits.specs.Errors.{IsMemory}
use Rattle.polars_arrays_bits.proofs.WordValues.{first-elements}
use Rattle.polars_arrays_bits.proofs.bitmap.Bitmap.from_values.Goals as goal

pub returns : goal.returns
returns g c =
    let values : List Bool = g.V.TruthValues.values c.args.values.now in
    let same = ap (λ (n : ℕ). first_of (λ i. get_or values i false) n) c.len.ensures ∙ first-elements values in
    subst (λ (xs : List Bool). MatchResult c.from_source.result (λ bits. bits ≡ xs) IsMemory) same c.from_source.ensures
