-- Why rows are not matched.
use Rattle.std.specs.Prelude.{◌≡◌, ◌≤◌, ◌^◌, length}
use Rattle.diff_keys.specs.declared.error.MatchError.{MatchError}
use Rattle.diff_keys.specs.declared.error.MatchError.TheVariants.{Memory, TooManyRows}
use Rattle.diff_keys.specs.Partners.{Keys}

-- an allocation failed
abbrev pub IsMemory : MatchError → Type 0
IsMemory error = error ≡ Memory

-- each row of the two tables has a number below 2^32
abbrev pub AreFew : Keys → Keys → Type 0
AreFew left right = (length left ≤ 2 ^ 32) × (length right ≤ 2 ^ 32)

-- the rows are too many, or an allocation failed
abbrev pub IsMatchFault : Keys → Keys → MatchError → Type 0
IsMatchFault left right Memory = AreFew left right
IsMatchFault left right TooManyRows = ¬ (AreFew left right)
