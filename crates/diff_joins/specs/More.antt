-- The matching of two tables row by row, as tables whose keys rise are merged.
--
-- Of the left key "a" and the right key "a" rows 0 and 0 are partners. Once a row "b" lies after
-- both, rows 1 and 1 are partners too. Where it lies after the left one alone, left row 1 is
-- removed.
use Rattle.std.specs.Prelude.{◌≡◌, ◌≤◌, ℕ, List, [], ◌∷◌, ◌++◌, length}
use Rattle.diff_keys.specs.Matching.{IsMatching}
use Rattle.diff_keys.specs.Partners.{Keys, count_of}
use Rattle.diff_keys.specs.declared.matching.Matching.{Matching}

-- a matching has one pair more
pub record HasPair (i j : ℕ) (before after : Matching) : Type 0 where
  pub left_rows : after.left_rows.items ≡ before.left_rows.items ++ i ∷ []
  pub right_rows : after.right_rows.items ≡ before.right_rows.items ++ j ∷ []
  pub removed : after.removed.items ≡ before.removed.items
  pub added : after.added.items ≡ before.added.items

-- it has one removed row more
pub record HasRemoved (i : ℕ) (before after : Matching) : Type 0 where
  pub left_rows : after.left_rows.items ≡ before.left_rows.items
  pub right_rows : after.right_rows.items ≡ before.right_rows.items
  pub removed : after.removed.items ≡ before.removed.items ++ i ∷ []
  pub added : after.added.items ≡ before.added.items

-- it has one added row more
pub record HasAdded (j : ℕ) (before after : Matching) : Type 0 where
  pub left_rows : after.left_rows.items ≡ before.left_rows.items
  pub right_rows : after.right_rows.items ≡ before.right_rows.items
  pub removed : after.removed.items ≡ before.removed.items
  pub added : after.added.items ≡ before.added.items ++ j ∷ []

-- where two tables have the same number of rows of a key, one more row of it after each is one
-- more pair
abbrev pub MatchesPair : Type 0
MatchesPair = (left right : Keys) (key : List ℕ) (before after : Matching) → count_of key left
    ≡ count_of key right → IsMatching left right before
    → HasPair (length left) (length right) before after
    → IsMatching (left ++ key ∷ []) (right ++ key ∷ []) after

-- where the right table has no more rows of a key than the left one, one more row of it after the
-- left one is removed
abbrev pub MatchesRemoved : Type 0
MatchesRemoved = (left right : Keys) (key : List ℕ) (before after : Matching)
    → count_of key right ≤ count_of key left → IsMatching left right before
    → HasRemoved (length left) before after → IsMatching (left ++ key ∷ []) right after

-- where the left table has no more rows of a key than the right one, one more row of it after the
-- right one is added
abbrev pub MatchesAdded : Type 0
MatchesAdded = (left right : Keys) (key : List ℕ) (before after : Matching)
    → count_of key left ≤ count_of key right → IsMatching left right before
    → HasAdded (length right) before after → IsMatching left (right ++ key ∷ []) after
