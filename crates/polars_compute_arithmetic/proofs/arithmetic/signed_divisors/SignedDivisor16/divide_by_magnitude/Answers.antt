use Rattle.std.proofs.Common.{◌≡◌, ◌∙◌, ◌*◌, ◌-ℤ◌, ◌≤◌, ℕ, refl, sym, ap, arith, to_z, of_z}
use Rattle.std.specs.Int.{w32}
use Rattle.std.specs.Prelude.{pos, unsigned_abs}
use Rattle.std.proofs.lemmas.Int.{ints}
use Rattle.polars_compute_arithmetic.proofs.Moved.{half-floor, moved-back}
use Rattle.polars_compute_arithmetic.specs.Quotients.{floor_by}
use Rattle.polars_compute_arithmetic.proofs.arithmetic.signed_divisors.SignedDivisor16.divide_by_magnitude.Goals as goal

pub returns-clause-quotient : goal.returns-clause-quotient
returns-clause-quotient c =
    let m : ℕ = c.self.inside.magnitude in
    let is : m ≡ unsigned_abs c.self.inside.divisor = c.self.invariant.3 in
    let two : 2 ≤ m = omega (arith, is, c.self.invariant.0) in
    let few : m ≤ 32768 = omega (arith, ints, is, c.self.invariant.1) in
    moved-back c.args.x c.self.inside.offset m _ c.divide.result two few c.requires (c.self.invariant.2 ∙ ap (λ (y : ℕ). pos (32768 * y)) (sym is)) refl c.divide.ensures.quotient c.divide.ensures.half
    ∙ ap (floor_by c.args.x) (is ∙ ap unsigned_abs c.self.view_is)

pub returns-clause-half : goal.returns-clause-half
returns-clause-half c =
    let m : ℕ = c.self.inside.magnitude in
    let is : m ≡ unsigned_abs c.self.inside.divisor = c.self.invariant.3 in
    let two : 2 ≤ m = omega (arith, is, c.self.invariant.0) in
    let few : m ≤ 32768 = omega (arith, ints, is, c.self.invariant.1) in
    let e : 2 * unsigned_abs (to_z w32 (of_z w32 (to_z w32 c.divide.result -ℤ pos 32768))) ≡ 2 * unsigned_abs (floor_by c.args.x m) =
    ap (λ z. 2 * unsigned_abs z) (moved-back c.args.x c.self.inside.offset m _ c.divide.result two few c.requires (c.self.invariant.2 ∙ ap (λ (y : ℕ). pos (32768 * y)) (sym is)) refl c.divide.ensures.quotient c.divide.ensures.half) in
    omega (arith, e, half-floor c.args.x m two)
