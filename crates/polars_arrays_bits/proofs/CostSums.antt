-- Costs of neighbouring places.
use Rattle.std.proofs.Common.{◌≡◌, ◌+◌, ◌-◌, ◌*◌, ◌<◌, ℕ, zero, suc, min, sym, ap, ◌∙◌, arith, add-one}
use Rattle.polars_arrays_bits.specs.Costs.{cost_of}

-- one place more
pub cost-next : (costs : ℕ → ℕ) (at n before between after : ℕ) → between ≡ before + cost_of costs at n → after ≡ between + costs (at + n) → after ≡ before + cost_of costs at (n + 1)
cost-next costs at n before between after so_far step = rw add-one (omega (arith, so_far, step))

-- some places, and those after them
pub cost-append : (costs : ℕ → ℕ) (at m n : ℕ) → cost_of costs at (m + n) ≡ cost_of costs at m + cost_of costs (at + m) n
cost-append costs at m zero =
    let all : m + 0 ≡ m = omega arith in
    ap (cost_of costs at) all ∙ sym (plus-zero (cost_of costs at m))
  where
    plus-zero : (k : ℕ) → k + 0 ≡ k
    plus-zero k = omega arith
cost-append costs at m (suc n) =
    let all : m + suc n ≡ suc (m + n) = omega arith in
    let place : at + (m + n) ≡ at + m + n = omega arith in
    ap (cost_of costs at) all ∙ ap (λ k. cost_of costs at (m + n) + costs k) place ∙ omega (arith, cost-append costs at m n)

-- the places of one word more
pub cost-word :
    (costs : ℕ → ℕ) (k len before between after : ℕ) → 64 * k < len → between ≡ before + cost_of costs 0 (min (64 * k) len)
    → after ≡ between + cost_of costs (64 * k) (min (len - 64 * k) 64) → after ≡ before + cost_of costs 0 (min (64 * (k + 1)) len)
cost-word costs k len before between after lt so_far step =
    let done : min (64 * k) len ≡ 64 * k = omega arith in
    let next : min (64 * (k + 1)) len ≡ 64 * k + min (len - 64 * k) 64 = omega arith in
    let zero_at : 0 + 64 * k ≡ 64 * k = omega arith in
    let split = cost-append costs 0 (64 * k) (min (len - 64 * k) 64) in
    let first = ap (cost_of costs 0) done in
    let second = ap (λ at. cost_of costs at (min (len - 64 * k) 64)) zero_at in
    let last = ap (cost_of costs 0) next in
    omega (arith, so_far, step, split, first, second, last)

-- places that cost nothing, and such ones after them
pub free-append : (costs : ℕ → ℕ) (at m n : ℕ) → cost_of costs at m ≡ 0 → cost_of costs (at + m) n ≡ 0 → cost_of costs at (m + n) ≡ 0
free-append costs at m n first next = omega (arith, cost-append costs at m n, first, next)

-- one such place more
pub free-next : (costs : ℕ → ℕ) (at n : ℕ) → cost_of costs at n ≡ 0 → costs (at + n) ≡ 0 → cost_of costs at (n + 1) ≡ 0
free-next costs at n first next = rw add-one (omega (arith, first, next))
