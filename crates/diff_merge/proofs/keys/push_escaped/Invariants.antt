use Rattle.std.proofs.Common.{◌≡◌, ◌++◌, take}
use Rattle.diff_tables.proofs.KeyLemmas.{part}
use Rattle.diff_merge.proofs.keys.push_escaped.Given as goal

abbrev pub invariant-loop-byte : goal.invariant-loop-byte
invariant-loop-byte l = l.out.items ≡ l.fn.out.items ++ part (take l.byte-index l.string)
