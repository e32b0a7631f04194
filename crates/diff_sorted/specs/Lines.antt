-- The lines of the first differences of a kind.
--
-- With the limit 2 the lines "a", "bc", "d" are kept as "abc" with the ends 1 and 3, and counted as
-- 3.
use Rattle.std.specs.List.{concat}
use Rattle.std.specs.Prelude.{◌≡◌, ◌<◌, ℕ, suc, List, [], ◌∷◌, ◌++◌, length, min, slice_index, take}
use Rattle.diff_sorted.specs.declared.lines.Lines.{Lines}

-- the first lines of these are kept, with the end of each, and all are counted
pub record HasLines (limit : ℕ) (all : List (List ℕ)) (l : Lines) : Type 0 where
  pub text : l.text.items ≡ concat (take limit all)
  pub count : l.count ≡ length all
  pub shown : length l.ends.items ≡ min limit (length all)
  pub ends : (k : ℕ) → k < length l.ends.items
      → slice_index l.ends.items k ≡ length (concat (take (suc k) all))

-- one line more is counted, and none is kept
pub record IsPassed (old new : Lines) : Type 0 where
  pub text : new.text.items ≡ old.text.items
  pub ends : new.ends.items ≡ old.ends.items
  pub count : new.count ≡ suc old.count

-- one line more is counted, and ends where the text does
pub record IsClosed (old new : Lines) : Type 0 where
  pub text : new.text.items ≡ old.text.items
  pub ends : new.ends.items ≡ old.ends.items ++ length old.text.items ∷ []
  pub count : new.count ≡ suc old.count
