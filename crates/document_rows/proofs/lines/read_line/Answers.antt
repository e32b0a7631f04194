use Rattle.std.proofs.Common.{rules}
use Rattle.document_rows.proofs.LineLemmas.{at_end, begun, met_feed}
use Rattle.document_rows.proofs.lines.read_line.Goals as goal

pub returns-in-Ended : goal.returns-in-Ended
returns-in-Ended g c = λ text known.
    let (left, is, begun) = c.loop.invariant text known in
    let (part, after, behind, split, more, free) = rw c.in-Ended.is at (c.in_ok-append_part.ensures left is) in
    (after, behind, met_feed text _ part _ after left begun split more free)

pub returns-in-Nothing : goal.returns-in-Nothing
returns-in-Nothing g c = λ text known.
    let (left, is, begun) = c.loop.invariant text known in
    let (behind, end, same) = rw c.in-Nothing.is at (c.in_ok-append_part.ensures left is) in
    at_end g.B.Read.remaining c.append_part.new.reader text _ left c.is_empty.result (rw same begun) end behind (λ e. search rules) (λ e. search rules)
