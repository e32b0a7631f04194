-- Comparisons of two windows, of n rows from row a of the left and row b of the right array.
use Rattle.std.specs.Prelude.{◌≡◌, ◌+◌, ◌≤◌, ℕ, Bool, List, Result, IfOk, MatchResult}
use Rattle.polars_arrays_bits.specs.Errors.{IsMemory}
use Rattle.polars_arrays_bits.specs.declared.error.ComputeError.{ComputeError}
use Rattle.polars_arrays_nested.specs.GoodParts.{IsGood}
use Rattle.polars_arrays_nested.specs.Lengths.{len_of}
use Rattle.polars_arrays_nested.specs.Types.{type_of}
use Rattle.polars_arrays_nested.specs.declared.any_array.AnyArray.{AnyArray}
use Rattle.polars_compare_nested.specs.Tally.{tally}

-- two windows that can be compared: within good arrays of one type
pub record AreWindows (left : AnyArray) (a : ℕ) (right : AnyArray) (b n : ℕ) : Type 0 where
  pub left_good : IsGood left
  pub right_good : IsGood right
  pub one_type : type_of left ≡ type_of right
  pub left_in : a + n ≤ len_of left
  pub right_in : b + n ≤ len_of right

-- two windows are compared: `Bits` holds of the result, and the tally is added; or Memory
pub record Compares (Bits : AnyArray → ℕ → AnyArray → ℕ → ℕ → List Bool → Type 0) (left : AnyArray)
    (a : ℕ) (right : AnyArray) (b n old new : ℕ) (result : Result (List Bool) ComputeError) :
    Type 0 where
  pub told : MatchResult result (Bits left a right b n) IsMemory
  pub counted : IfOk result (λ _. new ≡ old + tally left right a b n)
  pub kept : old ≤ new
