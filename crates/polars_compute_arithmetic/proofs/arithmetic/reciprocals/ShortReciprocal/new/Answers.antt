use Rattle.std.proofs.Common.{◌≡◌, ◌*◌, ◌%◌, ◌^◌, ℕ, arith, rules}
use Rattle.polars_compute_arithmetic.proofs.Quotient.{shifted}
use Rattle.polars_compute_arithmetic.proofs.arithmetic.reciprocals.ShortReciprocal.new.Goals as goal

pub invariant_of-result : goal.invariant_of-result
invariant_of-result c =
    let power : ℕ = 2 ^ c.ilog2-shift.result in
    let low = c.ilog2-shift.ensures.power_le in
    let high = c.ilog2-shift.ensures.next_power_gt in
    let whole : 1 * power % 18446744073709551616 ≡ power = omega arith in
    let parts = shifted c.args.divisor 4294967295 (1 * power % 18446744073709551616) power whole low c.requires.some (omega arith) (omega arith) in
    (c.requires.some, c.requires.within, search rules, omega arith, parts.0, parts.1)
