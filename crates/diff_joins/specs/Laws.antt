-- Laws of comparing tables by ranges: the first tables share no key with the second ones.
--
-- The left keys "a", "a" and the right key "a" share no key with the left key "b" and the right
-- keys "c", "b" after them. Of the first ones rows 0 and 0 are partners, and of the second ones
-- rows 0 and 1. So in the whole rows 0 and 0 are, and rows 2 and 2; left row 1 is removed, and
-- right row 1 is added.
use Rattle.std.specs.List.{Contains}
use Rattle.std.specs.Prelude.{◌≡◌, ◌+◌, ◌⊎◌, ◌↔◌, ℕ, List, ◌++◌, length, map}
use Rattle.diff_keys.specs.Matching.{IsMatching}
use Rattle.diff_keys.specs.Partners.{Keys, ArePartners}
use Rattle.diff_keys.specs.declared.matching.Matching.{Matching}
use Rattle.diff_tables.specs.Comparison.{IsComparison}
use Rattle.diff_tables.specs.Keys.{row_keys}
use Rattle.diff_tables.specs.declared.compare.Comparison.{Comparison}

-- two tables, a left and a right one, have no key of two others
abbrev pub ShareNoKey : (left right later_left later_right : Keys) → Type 0
ShareNoKey left right later_left later_right = (key : List ℕ) → Contains (left ++ right) key
    → ¬ (Contains (later_left ++ later_right) key)

-- row numbers, and after them the numbers of rows that lie n further on
abbrev pub with_later : ℕ → List ℕ → List ℕ → List ℕ
with_later n numbers later = numbers ++ map (λ k. n + k) later

-- i and j are the numbers in the whole of two rows that are partners in the second tables, which
-- lie after n and m rows
pub record ArePartnersBehind (n m : ℕ) (left right : Keys) (i j : ℕ) : Type 0 where
  pub left_row : ℕ
  pub right_row : ℕ
  pub left_is : i ≡ n + left_row
  pub right_is : j ≡ m + right_row
  pub partners : ArePartners left right left_row right_row

-- the pairs of partners of the whole are those of the first tables and those of the second ones
abbrev pub JoinsPartners : Type 0
JoinsPartners = (left right later_left later_right : Keys)
    → ShareNoKey left right later_left later_right → (i j : ℕ)
    → ArePartners (left ++ later_left) (right ++ later_right) i j
    ↔ (ArePartners left right i j
    ⊎ ArePartnersBehind (length left) (length right) later_left later_right i j)

-- the matching `whole` is `first` followed by `second`, whose rows lie n further on on the left,
-- and m on the right
pub record IsJoined (n m : ℕ) (first second whole : Matching) : Type 0 where
  pub left_rows : whole.left_rows.items ≡ with_later n first.left_rows.items second.left_rows.items
  pub right_rows : whole.right_rows.items
      ≡ with_later m first.right_rows.items second.right_rows.items
  pub removed : whole.removed.items ≡ with_later n first.removed.items second.removed.items
  pub added : whole.added.items ≡ with_later m first.added.items second.added.items

-- the matching of the whole is that of the first tables and after it that of the second ones
abbrev pub JoinsMatchings : Type 0
JoinsMatchings = (left right later_left later_right : Keys) (first second whole : Matching)
    → ShareNoKey left right later_left later_right
    → IsMatching left right first → IsMatching later_left later_right second
    → IsMatching (left ++ later_left) (right ++ later_right) whole
    ↔ IsJoined (length left) (length right) first second whole

-- the comparison `whole` is `first` followed by `second`, whose rows lie n further on on the left,
-- and m on the right
pub record IsJoinedComparison (n m : ℕ) (first second whole : Comparison) : Type 0 where
  pub matching : IsJoined n m first.matching second.matching whole.matching
  pub changed : whole.changed.items
      ≡ with_later (length first.matching.left_rows.items) first.changed.items second.changed.items

-- the comparison of the whole is that of the first tables and after it that of the second ones
abbrev pub JoinsComparisons : Type 0
JoinsComparisons =
    (columns : List ℕ) (left right later_left later_right : List (List (List ℕ)))
    (first second whole : Comparison)
    → ShareNoKey (row_keys columns left) (row_keys columns right) (row_keys columns later_left)
    (row_keys columns later_right)
    → IsComparison columns left right first → IsComparison columns later_left later_right second
    → IsComparison columns (left ++ later_left) (right ++ later_right) whole
    ↔ IsJoinedComparison (length left) (length right) first second whole
