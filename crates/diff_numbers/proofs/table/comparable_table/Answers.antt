use Rattle.std.proofs.Common.{◌≡◌, ◌*◌, ◌∙◌, length, ap, sym}
use Rattle.std.specs.List.{flat_map}
use Rattle.diff_numbers.specs.Rows.{comparable_row}
use Rattle.diff_tables.specs.Tables.{cut_rows}
use Rattle.diff_numbers.proofs.RowLemmas.{all_cells, cells_count, cut_kept}
use Rattle.diff_numbers.proofs.table.comparable_table.Goals as goal

pub new-requires : goal.new-requires
new-requires c =
    let row = comparable_row c.args.numeric.now in
    let rows = c.args.table.now.rows in
    let count : length (flat_map row rows) ≡ length c.args.numeric.now * length rows = all_cells row (length c.args.numeric.now) (cells_count c.args.numeric.now) rows in
    let width : length c.args.numeric.now ≡ c.width.result = c.requires ∙ sym c.width.ensures in
    (flat_map row rows, c.in_ok-cells.ensures, count ∙ (ap (λ w. w * length rows) width ∙ ap (λ n. c.width.result * n) (sym c.count.ensures)))

pub returns-in-Ok : goal.returns-in-Ok
returns-in-Ok c =
    let row = comparable_row c.args.numeric.now in
    let rows = c.args.table.now.rows in
    let width : c.width.result ≡ length c.args.numeric.now = c.width.ensures ∙ sym c.requires in
    record {
      width = c.in-Ok.ensures.0 ∙ c.width.ensures;
      rows = c.in-Ok.ensures.1 (flat_map row rows) c.in_ok-cells.ensures
          ∙ (ap (λ w. cut_rows w c.count.result (flat_map row rows)) width
          ∙ (ap (λ n. cut_rows (length c.args.numeric.now) n (flat_map row rows)) c.count.ensures ∙ cut_kept row (length c.args.numeric.now) (cells_count c.args.numeric.now) rows));
    }
