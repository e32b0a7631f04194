use Rattle.std.proofs.Common.{◌≡◌, arith, length, drop, ap, ◌∙◌}
use Rattle.std.proofs.lemmas.List.{length-take-le, length-drop}
use Rattle.polars_arrays_words.specs.Bits.{window}
use Rattle.polars_arrays_bits.proofs.Windows.{length_is, window-cut}
use Rattle.polars_arrays_bits.proofs.bitmap.Bitmap.slice.Goals as goal

pub slice-requires : goal.slice-requires
slice-requires c =
    let long = length_is _ c.self.inside.len c.args.self.now c.self.view_is in
    omega (arith, c.place_of-place.ensures.begin, c.place_of-place.ensures.least, c.self.invariant.1)

pub invariant_of-self : goal.invariant_of-self
invariant_of-self c =
    let long = length_is _ c.self.inside.len c.args.self.now c.self.view_is in
    let first = c.place_of-place.result.first in
    let count = c.place_of-place.result.count in
    let words = c.self.inside.words.items in
    let kept : length c.slice.new.self.items ≡ count =
    ap (λ b. length b.items) c.slice.ensures
    ∙ length-take-le count (drop first words) (omega (arith, length-drop first words, c.place_of-place.ensures.begin, c.place_of-place.ensures.least, c.self.invariant.1)) in
    (c.place_of-place.ensures.within_word, omega (arith, c.place_of-place.ensures.enough))

pub returns : goal.returns
returns c =
    let place = c.place_of-place.result in
    ap (λ b. window place.by c.args.n b.items) c.slice.ensures
    ∙ window-cut place.first place.count place.by c.self.inside.at c.self.inside.len c.args.at c.args.n c.self.inside.words.items c.args.self.now c.self.view_is c.requires c.place_of-place.ensures.begin c.place_of-place.ensures.enough
