-- The least and the greatest of numbers, as texts.
use Rattle.std.proofs.Common.{◌≡◌, ℕ, ℤ, List, Option, Some, None, MatchOption, refl, subst, sym}
use Rattle.std.specs.Fmt.{signed_decimal}
use Rattle.std.specs.Prelude.{option_map}
use Rattle.polars_arrays_flat.specs.Row.{Row, Int}
use Rattle.polars_compare_extremes.specs.Extremes.{IsGreatest, IsLeast, NonePresent}
use Rattle.polars_compare_leaves.specs.Order.{row_less, row_greater}
use Rattle.schema_columns.specs.Ends.{IsBestText, TellsEnds}

pub ends_told : (rows : List Row) (pair : Option (ℤ × ℤ)) (least greatest : Option (List ℕ)) → MatchOption pair (NonePresent rows) (λ p. IsLeast rows (Int p.0) × IsGreatest rows (Int p.1))
    → least ≡ option_map (λ (e : ℤ × ℤ). signed_decimal e.0) pair → greatest ≡ option_map (λ (e : ℤ × ℤ). signed_decimal e.1) pair → TellsEnds rows least greatest
ends_told rows None least greatest none l g = record {
  low = subst (λ o. MatchOption o (NonePresent rows) (IsBestText row_less rows)) (sym l) none;
  high = subst (λ o. MatchOption o (NonePresent rows) (IsBestText row_greater rows)) (sym g) none;
}
ends_told rows (Some p) least greatest found l g = record {
  low = subst (λ o. MatchOption o (NonePresent rows) (IsBestText row_less rows)) (sym l) (record { found = Int p.0; best = found.0; is = refl });
  high = subst (λ o. MatchOption o (NonePresent rows) (IsBestText row_greater rows)) (sym g) (record { found = Int p.1; best = found.1; is = refl });
}
