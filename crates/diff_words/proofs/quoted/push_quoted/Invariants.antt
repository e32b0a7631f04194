use Rattle.std.proofs.Common.{◌≡◌, ◌++◌, ◌∷◌, [], drop}
use Rattle.diff_words.specs.Quoted.{texts_behind}
use Rattle.diff_words.proofs.quoted.push_quoted.Given as goal

abbrev pub invariant-loop-i : goal.invariant-loop-i
invariant-loop-i l = l.out.items ++ texts_behind l.before (drop l.i l.bytes) ≡ (l.fn.out.items ++ 34 ∷ []) ++ texts_behind 0 l.bytes
