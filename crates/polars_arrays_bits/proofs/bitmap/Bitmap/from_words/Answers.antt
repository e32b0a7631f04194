use Rattle.std.proofs.Common.{◌≡◌, ◌<◌, ◌+◌, ◌*◌, arith, false, ap, ◌∙◌}
use Rattle.polars_arrays_words.specs.Bits.{bit_of}
use Rattle.polars_arrays_words.proofs.Firsts.{length-first, get_or-first}
use Rattle.polars_arrays_bits.proofs.Windows.{bit_of-cut}
use Rattle.polars_arrays_bits.proofs.bitmap.Bitmap.from_words.Goals as goal

pub returns-clause-len : goal.returns-clause-len
returns-clause-len c = length-first _ c.args.n

pub returns-clause-bits : goal.returns-clause-bits
returns-clause-bits c =
    λ i lt.
    let place = c.place_of-place.result in
    let within : place.by + i < 64 * place.count = omega (arith, c.place_of-place.ensures.enough) in
    let there : 64 * place.first + (place.by + i) ≡ c.args.at + i = omega (arith, c.place_of-place.ensures.begin) in
    get_or-first _ c.args.n i false lt
    ∙ ap (λ b. bit_of b.items (place.by + i)) c.slice.ensures
    ∙ bit_of-cut place.first place.count (place.by + i) c.args.words.items within
    ∙ ap (bit_of c.args.words.items) there
