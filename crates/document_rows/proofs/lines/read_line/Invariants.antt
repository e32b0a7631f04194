use Rattle.std.proofs.Common.{◌≡◌, ℕ, List, Some}
use Rattle.document_rows.proofs.LineLemmas.{IsBegun}
use Rattle.document_rows.proofs.lines.read_line.Given as goal

abbrev pub invariant-loop : goal.invariant-loop
invariant-loop g l = (text : List ℕ) → g.B.Read.remaining l.fn.reader ≡ Some text → (left : List ℕ) × (g.B.Read.remaining l.reader ≡ Some left) × IsBegun text l.line.items left
