use Rattle.std.proofs.Common.{◌≡◌, ◌∙◌, ap, arith, sym, count_by}
use Rattle.std.specs.Int.RustNames.{count_ones}
use Rattle.polars_compute_slots.proofs.WordBits.{count_word, front-count}
use Rattle.polars_compute_slots.proofs.slots.WordSlotsSlots.count_values.Goals as goal

pub overflow_sub-result : goal.overflow_sub-result
overflow_sub-result c =
    let whole : count_by (λ b. b) c.args.self.now ≡ count_ones c.self.inside.word = sym (ap (λ bs. count_by (λ b. b) bs) c.self.view_is) ∙ count_word c.self.inside.word c.self.inside.len c.self.invariant.1 in
    omega (arith, front-count c.args.self.now c.args.n c.from.result c.is_set.result c.requires c.is_set.ensures c.from.ensures)

pub returns : goal.returns
returns c =
    let whole : count_by (λ b. b) c.args.self.now ≡ count_ones c.self.inside.word = sym (ap (λ bs. count_by (λ b. b) bs) c.self.view_is) ∙ count_word c.self.inside.word c.self.inside.len c.self.invariant.1 in
    omega (arith, front-count c.args.self.now c.args.n c.from.result c.is_set.result c.requires c.is_set.ensures c.from.ensures)
