-- What is found among rows, as the row that it is.
use Rattle.std.proofs.Common.{◌≡◌, ◌∙◌, ℕ, Bool, List, Option, Some, None, refl, sym, ap}
use Rattle.std.specs.Prelude.{MatchOption, option_map}
use Rattle.polars_arrays_flat.specs.Row.{Row}
use Rattle.polars_compare_extremes.specs.Extremes.{FindsBest, IsGreatest, IsLeast, NonePresent}
use Rattle.polars_compare_leaves.specs.Order.{row_greater, row_less}
use Rattle.polars_compute_reductions.specs.Bitwise.{reduced, row_bits}
use Rattle.polars_tables_rows.specs.declared.row_type.RowType.{RowType}
use Rattle.polars_tables_rows.specs.Types.{width_of}
use Rattle.polars_tables_operations.specs.Bits.{bits_row}
use Rattle.polars_tables_operations.specs.Reducing.{best_row, reduced_row}
use Rattle.polars_tables_operations.proofs.Best.{finds, finds-none}

option-same : {A B : Type 0} (f g : A → B) → ((x : A) → f x ≡ g x) → (o : Option A) → option_map f o ≡ option_map g o
option-same f g same None = refl
option-same f g same (Some x) = ap Some (same x)

module _ {A : Type 0} (value_row scalar_row : A → Row) (same : (x : A) → scalar_row x ≡ value_row x) where
  -- what was reduced bit by bit
  pub reduced-is : (test : List Bool → Bool) (kind : RowType) (w : ℕ) (rows rows' : List Row) (found : Option A) (row : Option Row) → w ≡ width_of kind → rows' ≡ rows
      → option_map (λ x. row_bits w (scalar_row x)) found ≡ reduced test w rows'
      → row ≡ option_map (bits_row kind) (option_map (λ x. row_bits (width_of kind) (value_row x)) found)
      → row ≡ reduced_row test kind rows
  reduced-is test kind w rows rows' found row wide are told is =
      let bits = rw (wide, are) at told in
      is
      ∙ ap (option_map (bits_row kind)) (
      option-same (λ x. row_bits (width_of kind) (value_row x)) (λ x. row_bits (width_of kind) (scalar_row x)) (λ x. ap (row_bits (width_of kind)) (sym (same x))) found
      ∙ bits
      )

  -- the best row, which is a part of what was found
  pub best-is : {P : Type 0} (part : P → A) (better : Row → Row → Bool) (rows rows' : List Row) (found : Option P) → rows' ≡ rows
      → MatchOption found (NonePresent rows') (λ p. FindsBest better rows' (scalar_row (part p)))
      → option_map (λ p. value_row (part p)) found ≡ best_row better rows
  best-is part better rows rows' None are told = finds-none better rows (rw are at told)
  best-is part better rows rows' (Some p) are told = ap Some (sym (same (part p))) ∙ finds better rows (scalar_row (part p)) (rw are at told)

-- of two facts of what was found, the first and the second
first-of : {P : Type 0} (N : Type 0) (F G : P → Type 0) (found : Option P) → MatchOption found N (λ p. F p × G p) → MatchOption found N F
first-of N F G None n = n
first-of N F G (Some p) h = h.0

second-of : {P : Type 0} (N : Type 0) (F G : P → Type 0) (found : Option P) → MatchOption found N (λ p. F p × G p) → MatchOption found N G
second-of N F G None n = n
second-of N F G (Some p) h = h.1

-- both extremes
pub extremes-are : {A : Type 0} (value_row scalar_row : A → Row) → ((x : A) → scalar_row x ≡ value_row x) → (rows rows' : List Row) (found : Option (A × A)) → rows' ≡ rows
    → MatchOption found (NonePresent rows') (λ pair. IsLeast rows' (scalar_row pair.0) × IsGreatest rows' (scalar_row pair.1))
    → (option_map (λ pair. value_row pair.0) found ≡ best_row row_less rows) × (option_map (λ pair. value_row pair.1) found ≡ best_row row_greater rows)
extremes-are {A} value_row scalar_row same rows rows' found are told =
    let least = first-of (NonePresent rows') (λ (pair : A × A). IsLeast rows' (scalar_row pair.0)) (λ (pair : A × A). IsGreatest rows' (scalar_row pair.1)) found told in
    let greatest = second-of (NonePresent rows') (λ (pair : A × A). IsLeast rows' (scalar_row pair.0)) (λ (pair : A × A). IsGreatest rows' (scalar_row pair.1)) found told in (
      best-is value_row scalar_row same (λ (pair : A × A). pair.0) row_less rows rows' found are least,
      best-is value_row scalar_row same (λ (pair : A × A). pair.1) row_greater rows rows' found are greatest,
    )
