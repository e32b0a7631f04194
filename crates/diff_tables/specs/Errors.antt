-- Why tables are not compared.
use Rattle.std.specs.Prelude.{ℕ, List, ⊤}
use Rattle.diff_keys.specs.Errors.{AreFew}
use Rattle.diff_keys.specs.declared.error.MatchError.{MatchError}
use Rattle.diff_keys.specs.declared.error.MatchError.TheVariants.{Memory, TooManyRows}
use Rattle.diff_keys.specs.Partners.{Keys}
use Rattle.diff_tables.specs.Keys.{row_keys}

-- the rows are too many, or an allocation failed
abbrev pub IsCompareFault : List ℕ → List (List (List ℕ)) → List (List (List ℕ)) → MatchError
    → Type 0
IsCompareFault columns left right Memory = ⊤
IsCompareFault columns left right TooManyRows =
    ¬ (AreFew (row_keys columns left) (row_keys columns right))

-- the rows of these keys are too many, or an allocation failed
abbrev pub IsKeysFault : Keys → Keys → MatchError → Type 0
IsKeysFault left right Memory = ⊤
IsKeysFault left right TooManyRows = ¬ (AreFew left right)
