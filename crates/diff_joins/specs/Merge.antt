-- The merge of sorted tables: row by row, the lesser key first.
--
-- The left keys "a", "c" and the right keys "b", "c" rise. "a" comes first and is removed, then
-- "b", which is added, and then "c" of both, a pair.
use Rattle.std.specs.Prelude.{◌≡◌, ◌<◌, ◌⊎◌, ℕ, Bool, true, false, List, [], ◌∷◌, ◌++◌, Option}
use Rattle.std.specs.Prelude.{Some, None, length, ⊤}
use Rattle.diff_keys.specs.Matching.{IsMatching}
use Rattle.diff_keys.specs.Partners.{Keys, count_of}
use Rattle.diff_keys.specs.declared.matching.Matching.{Matching}
use Rattle.diff_joins.specs.More.{HasAdded, HasPair, HasRemoved}

-- an order of keys: no key is less than itself, and what is less than a lesser one is less
pub record IsOrder (less : List ℕ → List ℕ → Bool) : Type 0 where
  pub irreflexive : (a : List ℕ) → less a a ≡ false
  pub transitive : (a b c : List ℕ) → less a b ≡ true → less b c ≡ true → less a c ≡ true

-- a key is less than the next one of a table, or the table has no more row
abbrev pub ComesBefore : (List ℕ → List ℕ → Bool) → List ℕ → Option (List ℕ) → Type 0
ComesBefore less key None = ⊤
ComesBefore less key (Some next) = less key next ≡ true

-- the key that comes after the next key of a table is no less, or there is no more row
abbrev pub ComesBehind : (List ℕ → List ℕ → Bool) → Option (List ℕ) → Option (List ℕ) → Type 0
ComesBehind less None None = ⊤
ComesBehind less None (Some later) = ⊥
ComesBehind less (Some next) None = ⊤
ComesBehind less (Some next) (Some later) = (next ≡ later) ⊎ (less next later ≡ true)

-- the rows that were taken of two tables are matched, and none without a partner gets one from the
-- rows to come, whose next keys are these: if one table has a key more often, the other one has no
-- more rows of that key
pub record IsMerged (less : List ℕ → List ℕ → Bool) (left right : Keys)
    (next_left next_right : Option (List ℕ)) (m : Matching) : Type 0 where
  pub matching : IsMatching left right m
  pub left_alone : (key : List ℕ) → count_of key right < count_of key left
      → ComesBefore less key next_right
  pub right_alone : (key : List ℕ) → count_of key left < count_of key right
      → ComesBefore less key next_left

-- two tables are merged while no row of them is taken
abbrev pub MergesNone : Type 0
MergesNone = (less : List ℕ → List ℕ → Bool) (next_left next_right : Option (List ℕ)) (m : Matching)
    → IsMatching [] [] m → IsMerged less [] [] next_left next_right m

-- merged tables stay merged if the tables go on with keys that do not fall
abbrev pub MergesOn : Type 0
MergesOn = (less : List ℕ → List ℕ → Bool) (left right : Keys)
    (next_left next_right later_left later_right : Option (List ℕ)) (m : Matching) → IsOrder less
    → IsMerged less left right next_left next_right m → ComesBehind less next_left later_left
    → ComesBehind less next_right later_right
    → IsMerged less left right later_left later_right m

-- where both tables have one next key, its rows are a pair
abbrev pub MergesPair : Type 0
MergesPair = (less : List ℕ → List ℕ → Bool) (left right : Keys) (key : List ℕ)
    (before after : Matching) → IsOrder less
    → IsMerged less left right (Some key) (Some key) before
    → HasPair (length left) (length right) before after
    → IsMerged less (left ++ key ∷ []) (right ++ key ∷ []) (Some key) (Some key) after

-- where the next left key is less than the next right one, its row is removed
abbrev pub MergesRemoved : Type 0
MergesRemoved =
    (less : List ℕ → List ℕ → Bool) (left right : Keys) (key : List ℕ)
    (next_right : Option (List ℕ)) (before after : Matching) → IsOrder less
    → IsMerged less left right (Some key) next_right before → ComesBefore less key next_right
    → HasRemoved (length left) before after
    → IsMerged less (left ++ key ∷ []) right (Some key) next_right after

-- where the next right key is less than the next left one, its row is added
abbrev pub MergesAdded : Type 0
MergesAdded =
    (less : List ℕ → List ℕ → Bool) (left right : Keys) (key : List ℕ) (next_left : Option (List ℕ))
    (before after : Matching) → IsOrder less
    → IsMerged less left right next_left (Some key) before → ComesBefore less key next_left
    → HasAdded (length right) before after
    → IsMerged less left (right ++ key ∷ []) next_left (Some key) after
