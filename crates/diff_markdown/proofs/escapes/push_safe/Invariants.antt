use Rattle.std.proofs.Common.{◌≡◌, ◌++◌, drop}
use Rattle.diff_markdown.specs.Escapes.{safe_behind}
use Rattle.diff_markdown.proofs.escapes.push_safe.Given as goal

abbrev pub invariant-loop-i : goal.invariant-loop-i
invariant-loop-i l = l.out.items ++ safe_behind l.before (drop l.i l.text) ≡ l.fn.out.items ++ safe_behind 0 l.text
