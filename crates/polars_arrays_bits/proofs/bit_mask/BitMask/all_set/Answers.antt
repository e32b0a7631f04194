use Rattle.std.proofs.Common.{ap, ◌∙◌, arith}
use Rattle.std.specs.List.{list_all}
use Rattle.polars_arrays_bits.proofs.Windows.{window-part, length_is}
use Rattle.polars_arrays_bits.proofs.bit_mask.BitMask.all_set.Goals as goal

pub all_set-requires-clause-fits : goal.all_set-requires-clause-fits
all_set-requires-clause-fits c = omega (arith, c.requires, length_is _ c.self.inside.len c.args.self.now c.self.view_is)

pub returns : goal.returns
returns c =
    let inside = c.self.inside in
    c.all_set.ensures
    ∙ ap (list_all (λ b. b)) (window-part inside.words.now inside.at inside.len c.args.at c.args.n c.args.self.now c.self.view_is c.requires)
