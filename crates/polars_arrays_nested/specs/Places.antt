-- Places among items or entries.
use Rattle.std.specs.Prelude.{ℕ, Option, Some, None}

-- a place, or 0 for None
abbrev pub place_or_zero : Option ℕ → ℕ
place_or_zero None = 0
place_or_zero (Some at) = at
