-- The outcome of a comparison.
--
-- Where no row is changed or removed, and one is added, the inputs differ.
use Rattle.std.specs.Prelude.{◌==◌, ◌&&◌, ℕ, Bool, if◌then◌else◌, List, length}
use Rattle.diff_keys.specs.declared.matching.Matching.{Matching}
use Rattle.diff_keys.specs.declared.outcome.Outcome.{Outcome}
use Rattle.diff_keys.specs.declared.outcome.Outcome.TheVariants.{Same, Different}

-- no row is changed, removed or added
abbrev pub no_rows : Matching → List ℕ → Bool
no_rows m changed = (length changed == 0) && (length m.removed.items == 0)
    && (length m.added.items == 0)

-- the inputs are the same where no row makes a difference, and no column does
abbrev pub outcome_of : Matching → List ℕ → Bool → Outcome
outcome_of m changed same_columns =
    if no_rows m changed then (if same_columns then Same else Different) else Different
