use Rattle.std.proofs.Common.{◌≡◌, length, drop, ap, ◌∙◌, arith}
use Rattle.std.proofs.lemmas.List.{length-take-le, length-drop}
use Rattle.polars_arrays_words.specs.Bits.{window}
use Rattle.polars_arrays_bits.proofs.Windows.{length_is, window-cut}
use Rattle.polars_arrays_bits.proofs.bit_mask.BitMask.window.Goals as goal

pub words_of-requires : goal.words_of-requires
words_of-requires c =
    let long = length_is _ c.self.inside.len c.args.self.now c.self.view_is in
    omega (arith, c.place_of-place.ensures.begin, c.place_of-place.ensures.least, c.self.invariant.1)

pub invariant_of-result : goal.invariant_of-result
invariant_of-result c =
    let long = length_is _ c.self.inside.len c.args.self.now c.self.view_is in
    let place = c.place_of-place.result in
    let words = c.self.inside.words.now in
    let kept : length c.words_of.result.now ≡ place.count =
    ap length c.words_of.ensures
    ∙ length-take-le place.count (drop place.first words) (omega (arith, length-drop place.first words, c.place_of-place.ensures.begin, c.place_of-place.ensures.least, c.self.invariant.1)) in
    (c.place_of-place.ensures.within_word, omega (arith, c.place_of-place.ensures.enough))

pub returns : goal.returns
returns c =
    let place = c.place_of-place.result in
    ap (λ ws. window place.by c.args.n ws) c.words_of.ensures
    ∙ window-cut place.first place.count place.by c.self.inside.at c.self.inside.len c.args.at c.args.n c.self.inside.words.now c.args.self.now c.self.view_is c.requires c.place_of-place.ensures.begin c.place_of-place.ensures.enough
