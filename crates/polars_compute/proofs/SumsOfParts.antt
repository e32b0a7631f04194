-- The sum of rows one after another.
use Rattle.std.proofs.Common.{◌≡◌, ◌∙◌, ◌++◌, ℕ, List, [], ◌∷◌, ap, sym, arith}
use Rattle.std.specs.Prelude.{ℤ, ◌+ℤ◌}
use Rattle.std.proofs.Math.IntN.{+ℤ_comm}
use Rattle.std.proofs.lemmas.Int.{ints}
use Rattle.polars_arrays_flat.specs.Row.{Row}
use Rattle.polars_arrays_numbers.specs.Wrapping.{wrapped}
use Rattle.polars_arrays_numbers.specs.WrappingLaws.{wrapped-add}
use Rattle.polars_compute.specs.SumLaw.{SumsJoin}
use Rattle.polars_compute_reductions.specs.Sum.{total}

total-append : (rows more : List Row) → total (rows ++ more) ≡ total rows +ℤ total more
total-append [] more = omega (arith, ints)
total-append (row ∷ rows) more = omega (arith, ints, total-append rows more)

pub sums-join : (least : ℤ) (width : ℕ) → SumsJoin least width
sums-join least width rows more =
    ap (wrapped least width) (total-append rows more ∙ +ℤ_comm (total rows) (total more))
    ∙ sym (wrapped-add least width (total more) (total rows))
    ∙ ap (wrapped least width) (+ℤ_comm (wrapped least width (total more)) (total rows))
    ∙ sym (wrapped-add least width (total rows) (wrapped least width (total more)))
