-- The laws of arithmetic that wraps.
use Rattle.std.proofs.Common.{◌≡◌, ◌≢◌, ◌∙◌, ℕ, List, [], ◌∷◌, refl, sym, ap, arith}
use Rattle.std.specs.Prelude.{ℤ, zero, suc, pos, negsuc, ◌+ℤ◌, ◌-ℤ◌, ◌*ℤ◌}
use Rattle.std.proofs.lemmas.Int.{ints}
use Rattle.std.proofs.Math.IntN.{*ℤ_comm}
use Rattle.polars_arrays_flat.specs.ArrayRows.{number_rows}
use Rattle.polars_arrays_flat.specs.Row.{Row, Int}
use Rattle.polars_arrays_numbers.specs.Wrapping.{HasAllOf, wrapped}
use Rattle.polars_arrays_numbers.specs.WrappingLaws.{wrapped-add}
use Rattle.polars_compute_arithmetic.specs.Operations.{answer_row, answer_rows, floor_division, modulo, on_row, product_of, result_row, result_rows, sum_of, unless_zero}
use Rattle.polars_compute_arithmetic.specs.Quotients.{floor_quotient, modulus}
use Rattle.polars_compute_arithmetic.specs.WrapLaws.{wrapped-add_right, wrapped-mul_left, wrapped-within}
use Rattle.polars_compute.specs.ArithmeticLaws.{AnswersByRows, DividesBack, NumberOnLeft, NumberOnRight, ResultsByRows}

pub answers-by_rows : {A : Type 0} (value : A → ℤ) (least : ℤ) (width : ℕ) → AnswersByRows value least width
answers-by_rows value least width f before before' after after' same is is' =
    is ∙ ap (answer_rows least width f) same ∙ sym is'

pub results-by_rows : {A : Type 0} (value : A → ℤ) (least : ℤ) (width : ℕ) → ResultsByRows value least width
results-by_rows value least width op left left' right right' after after' one two is is' =
    is ∙ ap (λ (rows : List Row). result_rows least width op rows (number_rows value right)) one
    ∙ ap (result_rows least width op (number_rows value left')) two ∙ sym is'

back : (a b q : ℤ) → q *ℤ b +ℤ (a -ℤ b *ℤ q) ≡ a
back a b q = omega (arith, ints, *ℤ_comm b q)

-- an operation by a divisor other than 0 has a result
divided : (least : ℤ) (width : ℕ) (f : ℤ → ℤ → ℤ) (a b : ℤ) → b ≢ pos 0 → result_row least width (unless_zero f) (Int a) (Int b) ≡ Int (wrapped least width (f a b))
divided least width f a (pos zero) h = absurd (h refl)
divided least width f a (pos (suc n)) h = refl
divided least width f a (negsuc n) h = refl

pub divides-back : (least greatest : ℤ) (width : ℕ) → HasAllOf least greatest width → DividesBack least greatest width
divides-back least greatest width all a b low high some =
    let q : ℤ = floor_quotient a b in
    let m : ℤ = modulus a b in
    let quotient : result_row least width floor_division (Int a) (Int b) ≡ Int (wrapped least width q) = divided least width floor_quotient a b some in
    let rest : result_row least width modulo (Int a) (Int b) ≡ Int (wrapped least width m) = divided least width modulus a b some in
    ap (λ (r : Row). result_row least width sum_of (result_row least width product_of r (Int b)) (result_row least width modulo (Int a) (Int b))) quotient
    ∙ ap (λ (r : Row). result_row least width sum_of (Int (wrapped least width (wrapped least width q *ℤ b))) r) rest
    ∙ ap Int
    (ap (λ (z : ℤ). wrapped least width (z +ℤ wrapped least width m)) (wrapped-mul_left least width q b)
    ∙ wrapped-add least width (q *ℤ b) (wrapped least width m)
    ∙ wrapped-add_right least width (q *ℤ b) m
    ∙ ap (wrapped least width) (back a b q)
    ∙ wrapped-within least greatest width all a low high)

pub number-on_right : (least : ℤ) (width : ℕ) → NumberOnRight least width
number-on_right least width op [] b = refl
number-on_right least width op (x ∷ xs) b =
    let rest = number-on_right least width op xs b in
    let first : on_row (λ a. answer_row least width (op a b)) x ≡ result_row least width op x (Int b) = refl in
    cc

pub number-on_left : (least : ℤ) (width : ℕ) → NumberOnLeft least width
number-on_left least width op a [] = refl
number-on_left least width op a (y ∷ ys) =
    let rest = number-on_left least width op a ys in
    let first : on_row (λ b. answer_row least width (op a b)) y ≡ result_row least width op (Int a) y = refl in
    cc
