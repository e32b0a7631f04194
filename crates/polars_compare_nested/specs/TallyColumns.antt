-- The cost of comparing the columns of two structs.
use Rattle.std.specs.Prelude.{ℕ, ◌+◌, List, [], ◌∷◌}
use Rattle.polars_arrays_nested.specs.declared.any_array.AnyArray.{AnyArray}
use Rattle.polars_compare_nested.specs.Tally.{tally}

-- the sum of the costs of pairs of columns
abbrev pub columns_tally : List AnyArray → List AnyArray → ℕ → ℕ → ℕ → ℕ
columns_tally [] others a b n = 0
columns_tally (first ∷ rest) [] a b n = 0
columns_tally (first ∷ rest) (other ∷ others) a b n =
    tally first other a b n + columns_tally rest others a b n
