use Rattle.std.proofs.Common.{◌∙◌, List, Bool, ℕ, false, get_or, ap, arith}
use Rattle.polars_arrays_words.specs.Bits.{first_of}
use Rattle.polars_arrays_bits.proofs.WordValues.{window-words, first-elements}
use Rattle.polars_arrays_bits.proofs.bitmap.Bitmap.from_counted.Goals as goal

pub returns-clause-told : goal.returns-clause-told
returns-clause-told g c =
    let values : List Bool = g.V.CountedValues.values c.args.values.now in
    c.from_vec.ensures
    ∙ window-words (λ i. get_or values i false) c.div_ceil-count.result c.len-len.result c.push_counted.new.words.items c.push_counted.ensures.words (omega (arith, c.div_ceil-count.ensures))
    ∙ ap (λ (n : ℕ). first_of (λ i. get_or values i false) n) c.len-len.ensures
    ∙ first-elements values
