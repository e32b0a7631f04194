use Rattle.std.proofs.Common.{◌≡◌, ◌++◌, take}
use Rattle.std.specs.Prelude.{All, IsSome, map}
use Rattle.diff_aligned.specs.Aligned.{given_by, head_by, rows_by, tail_by}
use Rattle.diff_aligned.specs.Paragraphs.{texts_bytes}
use Rattle.diff_aligned.specs.Rows.{rows_view}
use Rattle.diff_lines.specs.Lines.{line_of}
use Rattle.diff_aligned.proofs.aligned.push_lines.Given as goal

abbrev pub invariant-loop-line : goal.invariant-loop-line
invariant-loop-line l =
    All (λ s. IsSome (line_of s)) (map (λ s. s.now) (take l.line-index l.lines))
    × (l.head.items ≡ l.fn.head.items ++ texts_bytes (given_by (head_by l.sheet) (map (λ s. s.now) (take l.line-index l.lines))))
    × (rows_view l.rows.items ≡ rows_view l.fn.rows.items ++ given_by (rows_by l.sheet) (map (λ s. s.now) (take l.line-index l.lines)))
    × (l.tail.items ≡ l.fn.tail.items ++ texts_bytes (given_by (tail_by l.sheet) (map (λ s. s.now) (take l.line-index l.lines))))
