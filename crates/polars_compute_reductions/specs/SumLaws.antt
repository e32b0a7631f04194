-- Sums that wrap at each step are folds, and equal the wrapped sum.
use Rattle.std.specs.Prelude.{◌≡◌, ◌+ℤ◌, ℕ, ℤ, pos, List, [], ◌∷◌, refl}
use Rattle.std.proofs.Common.{ap, sym, ◌∙◌, arith}
use Rattle.std.proofs.lemmas.Int.{ints}
use Rattle.std.proofs.Math.IntN.{+ℤ_assoc, +ℤ_comm}
use Rattle.polars_arrays_flat.specs.Row.{Row, Null, Int, Truth, Bytes, Rows, Fields, Entry}
use Rattle.polars_compute_reductions.specs.Folds.{Folds, folded, row_joined}
use Rattle.polars_arrays_numbers.specs.Wrapping.{wrapped}
use Rattle.polars_arrays_numbers.specs.WrappingLaws.{wrapped-add}
use Rattle.polars_compute_reductions.specs.Sum.{addend, total, wrapped_sum}

zero_add : (a : ℤ) → pos 0 +ℤ a ≡ a
zero_add a = omega (arith, ints)

module _ (least : ℤ) (width : ℕ) where
  wrapped-add_right : (a b : ℤ) → wrapped least width (a +ℤ wrapped least width b)
      ≡ wrapped least width (a +ℤ b)
  wrapped-add_right a b =
      ap (wrapped least width) (+ℤ_comm a (wrapped least width b))
      ∙ wrapped-add least width b a
      ∙ ap (wrapped least width) (+ℤ_comm b a)

  of_zero : (a : ℤ) → wrapped_sum least width (wrapped least width (pos 0)) (wrapped least width a)
      ≡ wrapped least width a
  of_zero a =
      wrapped-add least width (pos 0) (wrapped least width a)
      ∙ wrapped-add_right (pos 0) a
      ∙ ap (wrapped least width) (zero_add a)

  pub sum_folds : Folds (wrapped_sum least width) (wrapped least width (pos 0))
  sum_folds = record {
    any_groups = λ a b c. wrapped-add least width (a +ℤ b) c ∙ ap (wrapped least width)
        (+ℤ_assoc a b c) ∙ sym (wrapped-add_right a (b +ℤ c));
    any_order = λ a b. ap (wrapped least width) (+ℤ_comm a b);
    any_times = of_zero (pos 0);
  }

  nothing_more : (rest : ℤ) → wrapped least width rest ≡ wrapped least width (pos 0 +ℤ rest)
  nothing_more rest = ap (wrapped least width) (sym (zero_add rest))

  row-total : (row : Row) (rest : ℤ)
      → row_joined (wrapped_sum least width) row (wrapped least width rest)
      ≡ wrapped least width (addend row +ℤ rest)
  row-total (Int n) rest = wrapped-add_right n rest
  row-total Null rest = nothing_more rest
  row-total (Truth x) rest = nothing_more rest
  row-total (Bytes x) rest = nothing_more rest
  row-total (Rows x) rest = nothing_more rest
  row-total (Fields x) rest = nothing_more rest
  row-total (Entry x) rest = nothing_more rest

  -- the fold of rows by wrapping addition is their sum, wrapped
  pub folded-total : (rows : List Row)
      → folded (wrapped_sum least width) (wrapped least width (pos 0)) rows
      ≡ wrapped least width (total rows)
  folded-total [] = refl
  folded-total (row ∷ rows) =
      ap (row_joined (wrapped_sum least width) row) (folded-total rows) ∙ row-total row (total rows)
