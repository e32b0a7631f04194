-- Matches of lists that are known in advance.
use Rattle.std.specs.Prelude.{◌≤◌, ℕ}
use Rattle.polars_arrays_nested.specs.declared.list.ListArray.{ListArray}
use Rattle.polars_compare_nested.specs.Runs.{TellMatches}
use Rattle.polars_compare_nested.specs.declared.runs.Matches.{Matches}
use Rattle.polars_compare_nested.specs.declared.runs.NextRows.{NextRows}
use Rattle.polars_compare_nested.specs.declared.runs.NextRows.TheVariants.{Apart, Run}

-- at most 64 of n lists, from lists a and b on, are known to match or not
pub record AreKnown (l : ListArray) (a : ℕ) (r : ListArray) (b n : ℕ) (matches : Matches) :
    Type 0 where
  pub few : matches.len ≤ 64
  pub within : matches.len ≤ n
  pub tell : TellMatches l a r b matches.len matches.word

-- the number of pairs of lists in a result of `next_rows`
abbrev pub row_total : NextRows → ℕ
row_total Apart = 1
row_total (Run run) = run.len
