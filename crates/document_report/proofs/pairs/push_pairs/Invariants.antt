use Rattle.std.proofs.Common.{◌≡◌, ◌++◌, take}
use Rattle.std.specs.List.{flat_map}
use Rattle.document_report.specs.Pairs.{pair_at}
use Rattle.document_report.proofs.pairs.push_pairs.Given as goal

abbrev pub invariant-loop-n : goal.invariant-loop-n
invariant-loop-n l = l.out.items ≡ l.fn.out.items ++ flat_map (pair_at l.format l.sides l.matching) (take l.n l.changed)
