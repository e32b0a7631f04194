-- One step of a count, made or not made.
use Rattle.std.proofs.Common.{◌≡◌, ◌+◌, ℕ, Bool, true, false, if◌then◌else◌, arith}

pub not_counted : (n : ℕ) (b : Bool) → b ≡ false → n ≡ n + (if b then 1 else 0)
not_counted n true e = absurd cc
not_counted n false e = omega arith

pub one_counted : (m n : ℕ) (b : Bool) → b ≡ true → m ≡ n + 1 → m ≡ n + (if b then 1 else 0)
one_counted m n true e h = h
one_counted m n false e h = absurd cc
