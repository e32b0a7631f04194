use Rattle.std.proofs.Common.{◌≡◌, ◌++◌, take}
use Rattle.std.specs.List.{flat_map}
use Rattle.document_words.specs.Lines.{document_alone}
use Rattle.document_words.proofs.lines.push_documents_alone.Given as goal

abbrev pub invariant-loop-n : goal.invariant-loop-n
invariant-loop-n l = l.out.items ≡ l.fn.out.items ++ flat_map (document_alone l.format l.alone l.sides l.side) (take l.n l.rows)
