-- Byte strings between ends.
use Rattle.std.specs.Prelude.{◌≡◌, ◌++◌, ℕ, List, map, pos}
use Rattle.diff_tables.specs.Groups.{AreGroups}
use Rattle.diff_tables.specs.declared.strings.Strings.{Strings}

-- these strings were appended
pub record AreStrings (s : Strings) (strings : List (List ℕ)) : Type 0 where
  pub ends : List ℕ
  pub stored : s.ends.items ++ s.far_ends.items ≡ map (λ n. pos n) ends
  pub groups : AreGroups ends s.bytes.items strings
