use Rattle.std.proofs.Common.{◌≡◌, ◌++◌, drop}
use Rattle.json_plain.specs.Plain.{plain_behind}
use Rattle.json_plain.proofs.plain.push_plain_json.Given as goal

abbrev pub invariant-loop-i : goal.invariant-loop-i
invariant-loop-i l = l.out.items ++ plain_behind l.before (drop l.i l.text) ≡ l.fn.out.items ++ plain_behind 0 l.text
