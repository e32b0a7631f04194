use Rattle.std.proofs.Common.{◌≡◌, ◌∙◌, ◌++◌, ◌∷◌, [], length, get_or, map, ap, arith, subst}
use Rattle.std.proofs.lemmas.List.{append-nil}
use Rattle.std.specs.List.{range_with_len}
use Rattle.polars_arrays_bytes.specs.OffsetStrings.{offset_strings}
use Rattle.diff_numbers.proofs.RowLemmas.{column_more}
use Rattle.diff_tables.specs.Strings.{AreStrings}
use Rattle.diff_tolerances.specs.Rows.{cell_at, row_at}
use Rattle.diff_tolerances.proofs.rows.push_row.Goals as goal

pub loop-column-init : goal.loop-column-init
loop-column-init c = λ all old. rw append-nil old

pub loop-column-preserved : goal.loop-column-preserved
loop-column-preserved c = λ all old.
    let cell = cell_at c.args.tolerances.now (offset_strings (λ x. x) c.args.names.now) (row_at c.args.left.now.rows c.args.partner) (get_or c.args.right.now.rows c.args.row []) in
    let before = all ++ map cell (range_with_len 0 c.loop-column.column) in
    subst (λ s. AreStrings c.push.new.self s) (ap (λ x. before ++ x ∷ []) c.cell_at-cell.ensures ∙ column_more cell all c.loop-column.column)
    (c.in_ok-push.ensures before (c.loop-column.invariant all old))

pub returns : goal.returns
returns c = λ all old.
    let cell = cell_at c.args.tolerances.now (offset_strings (λ x. x) c.args.names.now) (row_at c.args.left.now.rows c.args.partner) (get_or c.args.right.now.rows c.args.row []) in
    let end : c.loop-column.column ≡ length (offset_strings (λ x. x) c.args.names.now) = omega arith in
    subst (λ n. AreStrings c.loop-column.cells (all ++ map cell (range_with_len 0 n))) end (c.loop-column.invariant all old)
