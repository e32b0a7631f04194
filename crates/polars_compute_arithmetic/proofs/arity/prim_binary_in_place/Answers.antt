use Rattle.std.proofs.Common.{◌≡◌, ◌∙◌, length, sym, ap}
use Rattle.polars_arrays_flat.specs.Numbers.{Numbers}
use Rattle.polars_compute_arithmetic.proofs.Joined.{joined-bits, length-pairs}
use Rattle.polars_compute_arithmetic.specs.Maps.{joined_validity}
use Rattle.polars_compute_arithmetic.proofs.arity.prim_binary_in_place.Goals as goal

pub with_validity-requires-after_bounds : goal.with_validity-requires-after_bounds
with_validity-requires-after_bounds g c κs within =
    let left : length c.take_validity.new.self.values ≡ length c.args.lhs.values = ap (λ (a : Numbers _). length a.values) c.take_validity.ensures.left in
    let right : length c.take_validity-2.new.self.values ≡ length c.args.rhs.values = ap (λ (a : Numbers _). length a.values) c.take_validity-2.ensures.left in
    let n : length c.written_pairs.result.values ≡ length c.args.lhs.values = length-pairs _ _ _ _ (right ∙ sym c.requires.same_length ∙ sym left) c.written_pairs.ensures.mapped ∙ left in
    let b : c.in-Ok.validity ≡ joined_validity c.take_validity.result c.take_validity-2.result = c.in-Ok.ensures in
    rw (n, b) (joined-bits _ _ _ _ (sym c.requires.same_length) c.take_validity.ensures.bits c.take_validity-2.ensures.bits)
