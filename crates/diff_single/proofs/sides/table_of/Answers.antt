use Rattle.std.proofs.Common.{◌*◌, [], ◌∙◌, arith, length}
use Rattle.diff_single.proofs.SideLemmas.{cut_one}
use Rattle.diff_single.proofs.sides.table_of.Goals as goal

pub new-2-requires : goal.new-2-requires
new-2-requires g c =
    let cells = g.L.StringList.strings c.args.cells.now in
    (cells, c.in_ok-push_all.ensures [] c.in_ok-strings.ensures, omega (arith, c.count.ensures))

pub returns-in-Ok : goal.returns-in-Ok
returns-in-Ok g c =
    let cells = g.L.StringList.strings c.args.cells.now in
    (c.in-Ok.ensures.0 ∙ c.count.ensures, c.in-Ok.ensures.1 cells (c.in_ok-push_all.ensures [] c.in_ok-strings.ensures) ∙ cut_one c.count.result cells c.count.ensures)
