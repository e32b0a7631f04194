-- What prefixes of views say of the order of their rows.
use Rattle.std.proofs.Common.{◌≡◌, ◌<◌, ◌∙◌, ℕ, false, List, nat_lt, sym, arith}
use Rattle.std.proofs.lemmas.Bool.Decides.{nat_tests}
use Rattle.polars_arrays_flat.specs.ByteOrder.{bytes_lt}
use Rattle.polars_arrays_views.proofs.LessRows.{IsPrefix, prefixes_decide}

-- a row with a greater prefix is not less
pub greater_prefix : (p q : ℕ) (xs ys : List ℕ) → IsPrefix p xs → IsPrefix q ys → q < p → false ≡ bytes_lt xs ys
greater_prefix p q xs ys first second above =
    let not_below : nat_lt p q ≡ false = grind (arith, nat_tests, above) in
    sym not_below ∙ prefixes_decide p q xs ys first second (λ same. absurd (omega (arith, same, above)))
