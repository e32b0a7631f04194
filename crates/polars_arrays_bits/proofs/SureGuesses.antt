-- Guesses that are sure, and parts of them.
use Rattle.std.proofs.Common.{◌≡◌, ◌+◌, ◌≤◌, ℕ, Bool, IsTrue, subst, arith}
use Rattle.std.proofs.lemmas.Bool.{cases_lt}
use mathlib.Core.Logic.{⊎_elim}
use Rattle.polars_arrays_bits.specs.Guesses.{AreSure}

-- the first of them
pub sure-first : (sure : ℕ → Bool) (at m n : ℕ) → m ≤ n → AreSure sure at n → AreSure sure at m
sure-first sure at m n le all = λ i lt. all i (omega arith)

-- those after the first
pub sure-next : (sure : ℕ → Bool) (at m n : ℕ) → AreSure sure at (m + n) → AreSure sure (at + m) n
sure-next sure at m n all = λ i lt.
    let place : at + (m + i) ≡ at + m + i = omega arith in
    subst (λ p. IsTrue (sure p)) place (all (m + i) (omega arith))

-- one more
pub sure-more : (sure : ℕ → Bool) (at n : ℕ) → AreSure sure at n → IsTrue (sure (at + n)) → AreSure sure at (n + 1)
sure-more sure at n first next = λ i lt.
    ⊎_elim
    (λ below. first i below)
    (λ past.
    let place : n ≡ i = omega arith in
    subst (λ k. IsTrue (sure (at + k))) place next)
    (cases_lt i n)
