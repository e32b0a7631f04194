-- Wrapping of a whole number to a type of fixed width.
use Rattle.std.specs.Prelude.{◌≡◌, ◌≤ℤ◌, ◌+ℤ◌, ◌-ℤ◌, ◌^◌, ℕ, ℤ, pos}
use Rattle.std.specs.Int.{int_rem_euclid}

-- x and y are congruent modulo m: dividing them by m leaves the same remainder, which is at least 0
abbrev pub Congruent : ℕ → ℤ → ℤ → Type 0
Congruent m x y = int_rem_euclid x (pos m) ≡ int_rem_euclid y (pos m)

-- x is n wrapped to a type: the value of the type that is congruent to n modulo 2 to the width
pub record IsWrapped (least greatest : ℤ) (width : ℕ) (n x : ℤ) : Type 0 where
  pub from_least : least ≤ℤ x
  pub to_greatest : x ≤ℤ greatest
  pub congruent : Congruent (2 ^ width) x n

-- n wrapped: the least value plus the remainder of (n - least) divided by 2 to the width
abbrev pub wrapped : ℤ → ℕ → ℤ → ℤ
wrapped least width n = least +ℤ int_rem_euclid (n -ℤ least) (pos (2 ^ width))

-- a type of `width` bits has 2 to the width numbers, from its least to its greatest value
abbrev pub HasAllOf : ℤ → ℤ → ℕ → Type 0
HasAllOf least greatest width = greatest +ℤ pos 1 ≡ least +ℤ pos (2 ^ width)
