-- Laws of wrapping arithmetic.
use Rattle.std.specs.Prelude.{◌≡◌, ◌≢◌, ◌≤ℤ◌, ℕ, ℤ, pos, List, length, replicate}
use Rattle.polars_arrays_flat.specs.ArrayRows.{number_rows}
use Rattle.polars_arrays_flat.specs.Numbers.{Numbers}
use Rattle.polars_arrays_flat.specs.Row.{Row, Int}
use Rattle.polars_compute_arithmetic.specs.Operations.{Function, Operation, answer_rows}
use Rattle.polars_compute_arithmetic.specs.Operations.{floor_division, modulo, product_of}
use Rattle.polars_compute_arithmetic.specs.Operations.{result_row, result_rows, sum_of}
use Rattle.polars_compute_arithmetic.specs.Results.{IsAnswer, IsResult}

-- a function's results for two arrays with the same rows have the same rows
abbrev pub AnswersByRows : {A : Type 0} → (A → ℤ) → ℤ → ℕ → Type 0
AnswersByRows value least width = (f : Function) (before before' after after' : Numbers _)
    → number_rows value before ≡ number_rows value before'
    → IsAnswer value least width f before after → IsAnswer value least width f before' after'
    → number_rows value after ≡ number_rows value after'

-- an operation's results for arrays with the same rows have the same rows
abbrev pub ResultsByRows : {A : Type 0} → (A → ℤ) → ℤ → ℕ → Type 0
ResultsByRows value least width =
    (op : Operation) (left left' right right' after after' : Numbers _)
    → number_rows value left ≡ number_rows value left' → number_rows value right
    ≡ number_rows value right'
    → IsResult value least width op left right after
    → IsResult value least width op left' right' after'
    → number_rows value after ≡ number_rows value after'

-- floor quotient times divisor plus modulus, wrapped, is the dividend
abbrev pub DividesBack : ℤ → ℤ → ℕ → Type 0
DividesBack least greatest width = (a b : ℤ) → least ≤ℤ a → a ≤ℤ greatest → b ≢ pos 0
    → result_row least width sum_of
    (result_row least width product_of (result_row least width floor_division (Int a) (Int b))
    (Int b)) (result_row least width modulo (Int a) (Int b)) ≡ Int a

-- a number on the right of an operation acts as a column that repeats it
abbrev pub NumberOnRight : ℤ → ℕ → Type 0
NumberOnRight least width = (op : Operation) (xs : List Row) (b : ℤ)
    → answer_rows least width (λ a. op a b) xs
    ≡ result_rows least width op xs (replicate (length xs) (Int b))

-- a number on the left of an operation acts as a column that repeats it
abbrev pub NumberOnLeft : ℤ → ℕ → Type 0
NumberOnLeft least width = (op : Operation) (a : ℤ) (ys : List Row)
    → answer_rows least width (op a) ys
    ≡ result_rows least width op (replicate (length ys) (Int a)) ys
