use Rattle.std.proofs.Common.{◌≡◌, ◌++◌, map, take}
use Rattle.diff_words.specs.Lists.{listed}
use Rattle.document_report.specs.Pairs.{change_in, separator_in}
use Rattle.json_changes.specs.Texts.{change_view}
use Rattle.document_report.proofs.pairs.push_changes.Given as goal

abbrev pub invariant-loop-n : goal.invariant-loop-n
invariant-loop-n l = l.out.items ≡ l.fn.out.items ++ listed (separator_in l.format) (map (change_in l.format l.colored) (take l.n (map change_view l.changes)))
