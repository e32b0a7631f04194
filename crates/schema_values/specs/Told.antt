-- Summaries of values.
use Rattle.std.specs.Prelude.{◌≡◌, ℕ, List, Option, None, option_map}
use Rattle.schema_values.specs.declared.numbers.Values.{Values}

-- the number of different values, and the texts of the least and the greatest, where they are known
pub record Told : Type 0 where
  pub distinct : Option ℕ
  pub least : Option (List ℕ)
  pub greatest : Option (List ℕ)

-- nothing is known: each part is None
pub record TellsNothing (t : Told) : Type 0 where
  pub distinct : t.distinct ≡ None
  pub least : t.least ≡ None
  pub greatest : t.greatest ≡ None

-- the summary that a program returns, with its texts as lists of bytes
abbrev pub told_of : Values → Told
told_of v = record {
  distinct = v.distinct;
  least = option_map (λ t. t.items) v.least;
  greatest = option_map (λ t. t.items) v.greatest;
}
