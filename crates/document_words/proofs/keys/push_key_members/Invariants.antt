use Rattle.std.proofs.Common.{◌≡◌, ◌++◌, map}
use Rattle.std.specs.List.{range_with_len}
use Rattle.std.specs.Prelude.{codes}
use Rattle.diff_report.specs.Sides.{row_of}
use Rattle.diff_words.specs.Lists.{listed}
use Rattle.document_words.specs.Keys.{key_member}
use Rattle.document_words.specs.Sides.{names_of}
use Rattle.document_words.proofs.keys.push_key_members.Given as goal

abbrev pub invariant-loop-k : goal.invariant-loop-k
invariant-loop-k l = l.out.items ≡ l.fn.out.items ++ listed (codes ",") (map (key_member (names_of l.sides) (row_of l.side l.i)) (range_with_len 0 l.k))
