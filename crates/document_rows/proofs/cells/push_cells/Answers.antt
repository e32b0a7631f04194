use Rattle.std.proofs.Common.{◌++◌, [], get_or, arith, subst}
use Rattle.std.proofs.lemmas.List.{take_all}
use Rattle.diff_tables.specs.Strings.{AreStrings}
use Rattle.document_rows.proofs.KnownLemmas.{cell_more}
use Rattle.document_rows.proofs.cells.push_cells.Goals as goal

pub loop-column-preserved : goal.loop-column-preserved
loop-column-preserved c = λ all old.
    let row = get_or c.args.table.now.rows c.args.row [] in
    subst (AreStrings c.push.new.self) (cell_more all row c.loop-column.column c.cell.result.now (omega (arith, c.requires.width)) c.cell.ensures)
    (c.in_ok-push.ensures _ (c.loop-column.invariant all old))

pub returns : goal.returns
returns c = λ all old.
    let row = get_or c.args.table.now.rows c.args.row [] in
    subst (λ l. AreStrings c.loop-column.cells (all ++ l)) (take_all c.loop-column.column row (omega (arith, c.requires.width))) (c.loop-column.invariant all old)
