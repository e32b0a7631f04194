use Rattle.std.proofs.Common.{ℕ, ◌≡◌, ◌*◌, ◌%◌, ◌^◌, arith}
use Rattle.polars_compute_arithmetic.proofs.Quotient.{carried}
use Rattle.polars_compute_arithmetic.proofs.arithmetic.reciprocals.Reciprocal64.new.Goals as goal

pub invariant_of-result : goal.invariant_of-result
invariant_of-result c =
    let power : ℕ = 2 ^ c.ilog2-shift.result in
    let low = c.ilog2-shift.ensures.power_le in
    let high = c.ilog2-shift.ensures.next_power_gt in
    let whole : 1 * power % 340282366920938463463374607431768211456 ≡ power = omega arith in
    let parts = carried c.args.divisor 18446744073709551615 (1 * power % 340282366920938463463374607431768211456) power whole low (omega arith) c.requires (omega arith) in
    (c.requires, omega arith, c.ilog2-shift.ensures.bound, omega arith, parts.0, parts.1)
