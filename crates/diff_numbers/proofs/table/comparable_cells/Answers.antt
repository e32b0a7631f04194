use Rattle.std.proofs.Common.{◌≡◌, ◌<◌, length, take, arith, subst}
use Rattle.std.proofs.lemmas.List.{take_all}
use Rattle.std.specs.List.{flat_map}
use Rattle.diff_numbers.specs.Rows.{comparable_row}
use Rattle.diff_tables.specs.Strings.{AreStrings}
use Rattle.diff_numbers.proofs.RowLemmas.{row_more}
use Rattle.diff_numbers.proofs.table.comparable_cells.Goals as goal

pub loop-row-preserved : goal.loop-row-preserved
loop-row-preserved c =
    let row = comparable_row c.args.numeric.now in
    let within : c.loop-row.row < length c.args.table.now.rows = omega arith in
    subst (λ s. AreStrings c.push_row.new.cells s) (row_more row c.args.table.now.rows c.loop-row.row within)
    (c.in_ok-push_row.ensures (flat_map row (take c.loop-row.row c.args.table.now.rows)) c.loop-row.invariant)

pub returns : goal.returns
returns c =
    let end : take c.loop-row.row c.args.table.now.rows ≡ c.args.table.now.rows = take_all c.loop-row.row c.args.table.now.rows (omega arith) in
    subst (λ rows. AreStrings c.loop-row.cells (flat_map (comparable_row c.args.numeric.now) rows)) end c.loop-row.invariant
