use Rattle.std.proofs.Common.{◌∙◌, ◌++◌, ap, arith, length}
use Rattle.diff_report.specs.declared.lines.Alone.TheVariants.{Removed}
use Rattle.diff_single.proofs.LineLemmas.{row_framed}
use Rattle.diff_single.proofs.lines.push_removed.Goals as goal

pub push_row-requires-clause-row : goal.push_row-requires-clause-row
push_row-requires-clause-row g c = omega (arith, ap length c.in_ok-sides.ensures.rows.left.rows)

pub returns : goal.returns
returns g c = λ s i frame row.
    let f = c.args.frame.now in
    let cells = g.L.StringList.strings c.args.row.now.cells.now in
    let one = c.in_ok-sides.ensures.rows in
    let t = c.in_ok-sides.sides in
    c.in_ok-push_row.ensures ∙ ap (λ l. c.args.out.now.items ++ l) (row_framed f.format Removed f s t s.left t.left i f.left.now cells c.args.row.now.number c.args.row.now.line frame one.naming frame.left row one.left)
