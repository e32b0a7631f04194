use Rattle.std.proofs.Common.{◌≤◌, ◌+◌, ◌-◌, ◌++◌, ℕ, List, take}
use Rattle.std.specs.Prelude.{vec_capacity, vec_len}
use Rattle.diff_tables.specs.Strings.{AreStrings}
use Rattle.diff_tables.proofs.strings.Strings.push_all.Given as goal

abbrev pub invariant-loop-i : goal.invariant-loop-i
invariant-loop-i g l = record {
  room : vec_len l.self.ends + (l.count - l.i) ≤ vec_capacity l.self.ends;
  pushed : (all : List (List ℕ)) → AreStrings l.fn.self all → AreStrings l.self (all ++ take l.i (g.S.StringList.strings l.strings));
}
