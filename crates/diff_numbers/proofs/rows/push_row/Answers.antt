use Rattle.std.proofs.Common.{◌≡◌, ◌++◌, [], length, get_or, map, arith, subst}
use Rattle.std.proofs.lemmas.List.{append-nil}
use Rattle.std.specs.List.{range_with_len}
use Rattle.diff_numbers.specs.Rows.{comparable_at}
use Rattle.diff_tables.specs.Strings.{AreStrings}
use Rattle.diff_numbers.proofs.RowLemmas.{column_more}
use Rattle.diff_numbers.proofs.rows.push_row.Goals as goal

pub loop-column-init : goal.loop-column-init
loop-column-init c = λ all old. rw append-nil old

pub loop-column-preserved : goal.loop-column-preserved
loop-column-preserved c = λ all old.
    let cell = comparable_at c.args.numeric.now (get_or c.args.table.now.rows c.args.row []) in
    subst (λ s. AreStrings c.push_cell.new.cells s) (column_more cell all c.loop-column.column)
    (c.in_ok-push_cell.ensures (all ++ map cell (range_with_len 0 c.loop-column.column)) (c.loop-column.invariant all old))

pub returns : goal.returns
returns c = λ all old.
    let cell = comparable_at c.args.numeric.now (get_or c.args.table.now.rows c.args.row []) in
    let end : c.loop-column.column ≡ length c.args.numeric.now = omega arith in
    subst (λ n. AreStrings c.loop-column.cells (all ++ map cell (range_with_len 0 n))) end (c.loop-column.invariant all old)
