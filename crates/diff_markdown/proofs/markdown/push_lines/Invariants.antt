use Rattle.std.proofs.Common.{◌≡◌, ◌++◌, take}
use Rattle.std.specs.Prelude.{All, IsSome, map}
use Rattle.diff_lines.specs.Lines.{line_of}
use Rattle.diff_markdown.specs.Markdown.{counts_of, rows_of}
use Rattle.diff_markdown.proofs.markdown.push_lines.Given as goal

abbrev pub invariant-loop-line : goal.invariant-loop-line
invariant-loop-line l =
    All (λ s. IsSome (line_of s)) (map (λ s. s.now) (take l.line-index l.lines))
    × (l.head.items ≡ l.fn.head.items ++ counts_of (map (λ s. s.now) (take l.line-index l.lines)))
    × (l.rows.items ≡ l.fn.rows.items ++ rows_of (map (λ s. s.now) (take l.line-index l.lines)))
