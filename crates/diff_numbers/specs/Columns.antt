-- The columns whose numbers count.
--
-- Of the columns "id", "amount", where "id" is compared as text, numbers count in the second alone.
use Rattle.std.specs.List.{list_any}
use Rattle.std.specs.Prelude.{ℕ, Bool, not, List, map}
use Rattle.std.specs.Str.{bytes_eq}
use Rattle.diff_columns.specs.Names.{Names}

-- a name is among these
abbrev pub is_named : Names → List ℕ → Bool
is_named names name = list_any (λ other. bytes_eq other name) names

-- for each column whether its numbers count: its name is not among those of the columns that are
-- compared as texts
abbrev pub number_columns : Names → Names → List Bool
number_columns texts names = map (λ name. not (is_named texts name)) names
