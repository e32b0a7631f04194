-- Elements that lie in groups, one group after another.
--
-- Of the elements a, b, c the ends 0, 2, 2, 3 make the groups "a b", none, and "c".
use Rattle.std.specs.Prelude.{◌≡◌, ◌-◌, ◌<◌, ◌≤◌, ℕ, suc, List, [], length, get_or, take, drop}

-- group k has the elements from end k up to end k + 1
pub record AreGroups {A : Type 0} (ends : List ℕ) (elements : List A) (groups : List (List A)) :
    Type 0 where
  pub one_more : length ends ≡ suc (length groups)
  pub last : get_or ends (length groups) 0 ≡ length elements
  pub rise : (k : ℕ) → k < length groups → (get_or ends k 0 ≤ get_or ends (suc k) 0)
      × (get_or ends (suc k) 0 ≤ length elements)
  pub group : (k : ℕ) → k < length groups
      → take (get_or ends (suc k) 0 - get_or ends k 0) (drop (get_or ends k 0) elements)
      ≡ get_or groups k []
