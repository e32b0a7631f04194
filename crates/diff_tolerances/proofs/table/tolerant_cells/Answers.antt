use Rattle.std.proofs.Common.{◌≡◌, length, arith, subst}
use Rattle.std.specs.List.{flat_map, range_with_len}
use Rattle.polars_arrays_bytes.specs.OffsetStrings.{offset_strings}
use Rattle.diff_tables.specs.Strings.{AreStrings}
use Rattle.diff_tolerances.specs.Rows.{row_beside}
use Rattle.diff_tolerances.proofs.RowLemmas.{row_more}
use Rattle.diff_tolerances.proofs.table.tolerant_cells.Goals as goal

pub push_row-requires-clause-partner : goal.push_row-requires-clause-partner
push_row-requires-clause-partner c = c.requires.within c.loop-row.row (omega arith)

pub loop-row-preserved : goal.loop-row-preserved
loop-row-preserved c =
    let row = row_beside c.args.tolerances.now (offset_strings (λ x. x) c.args.names.now) c.args.left.now.rows c.args.partners.now c.args.right.now.rows in
    subst (λ s. AreStrings c.push_row.new.cells s) (row_more row c.loop-row.row)
    (c.in_ok-push_row.ensures (flat_map row (range_with_len 0 c.loop-row.row)) c.loop-row.invariant)

pub returns : goal.returns
returns c =
    let row = row_beside c.args.tolerances.now (offset_strings (λ x. x) c.args.names.now) c.args.left.now.rows c.args.partners.now c.args.right.now.rows in
    let end : c.loop-row.row ≡ length c.args.right.now.rows = omega arith in
    subst (λ n. AreStrings c.loop-row.cells (flat_map row (range_with_len 0 n))) end c.loop-row.invariant
