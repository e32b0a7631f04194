use Rattle.std.proofs.Common.{◌∙◌, ◌<◌, ap, arith, true}
use Rattle.std.specs.Prelude.{slice_set}
use Rattle.polars_compute_slots.proofs.WordBits.{size_is, word-set, word-set_fits}
use Rattle.polars_compute_slots.proofs.slots.WordSlotsSlots.set.Goals as goal

pub one_bit-requires : goal.one_bit-requires
one_bit-requires c = omega (arith, size_is _ _ _ c.self.view_is, c.self.invariant.0, c.requires)

pub invariant_of-self : goal.invariant_of-self
invariant_of-self c =
    let within : c.args.i < c.self.inside.len = omega (arith, size_is _ _ _ c.self.view_is, c.requires) in
    (c.self.invariant.0, rw c.one_bit.ensures (word-set_fits c.self.inside.word c.self.inside.len c.args.i within c.self.invariant.1))

pub returns : goal.returns
returns c =
    let within : c.args.i < c.self.inside.len = omega (arith, size_is _ _ _ c.self.view_is, c.requires) in
    rw c.one_bit.ensures (word-set c.self.inside.word c.self.inside.len c.args.i c.self.invariant.0 within ∙ ap (λ l. slice_set l c.args.i true) c.self.view_is)
