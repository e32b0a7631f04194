use Rattle.std.proofs.Common.{◌≡◌, ◌++◌, map, take}
use Rattle.std.specs.Prelude.{codes}
use Rattle.diff_words.specs.Lists.{listed}
use Rattle.diff_report.specs.Sides.{naming_of, row_of}
use Rattle.diff_json.specs.Keys.{key_member}
use Rattle.diff_json.proofs.keys.push_keys.Given as goal

abbrev pub invariant-loop-k : goal.invariant-loop-k
invariant-loop-k l = l.out.items ≡ l.fn.out.items ++ listed (codes ",") (map (key_member (naming_of l.sides) (row_of l.side l.i)) (take l.k l.sides.keys.items))
