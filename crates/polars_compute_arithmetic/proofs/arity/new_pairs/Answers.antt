use Rattle.std.proofs.Common.{◌≡◌, ◌∙◌, List, length, sym, ap}
use Rattle.polars_compute_arithmetic.proofs.Joined.{joined-bits, length-pairs}
use Rattle.polars_compute_arithmetic.specs.Maps.{joined_validity}
use Rattle.polars_compute_arithmetic.proofs.arity.new_pairs.Goals as goal

pub with_validity-requires-after_bounds : goal.with_validity-requires-after_bounds
with_validity-requires-after_bounds g c κs within =
    let left : length c.values.result.now ≡ length c.args.lhs.now.values = ap (λ (xs : List _). length xs) c.values.ensures in
    let right : length c.values-2.result.now ≡ length c.args.rhs.now.values = ap (λ (xs : List _). length xs) c.values-2.ensures in
    let n : length c.in_ok-values.values.items ≡ length c.args.lhs.now.values = length-pairs _ _ _ _ (right ∙ sym c.requires.same_length ∙ sym left) c.in_ok-values.ensures ∙ left in
    let b : c.in_ok-validity.validity ≡ joined_validity c.take_validity.result c.take_validity-2.result = c.in_ok-validity.ensures in
    rw (c.from_vec.ensures.stored, n, b) (joined-bits _ _ _ _ (sym c.requires.same_length) c.take_validity.ensures.bits c.take_validity-2.ensures.bits)
