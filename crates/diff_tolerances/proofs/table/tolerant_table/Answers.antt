use Rattle.std.proofs.Common.{◌≡◌, ◌*◌, ◌∙◌, length, ap, sym}
use Rattle.std.proofs.lemmas.List.FromFn.{length-range_with_len}
use Rattle.std.specs.List.{flat_map, range_with_len}
use Rattle.polars_arrays_bytes.specs.OffsetStrings.{offset_strings}
use Rattle.diff_tables.specs.Tables.{cut_rows}
use Rattle.diff_tolerances.specs.Rows.{row_beside}
use Rattle.diff_tolerances.proofs.RowLemmas.{all_cells, beside_count, cut_kept}
use Rattle.diff_tolerances.proofs.table.tolerant_table.Goals as goal

pub new-requires : goal.new-requires
new-requires c =
    let names = offset_strings (λ x. x) c.args.names.now in
    let row = row_beside c.args.tolerances.now names c.args.left.now.rows c.deref.result.now c.args.right.now.rows in
    let js = range_with_len 0 (length c.args.right.now.rows) in
    let each = beside_count c.args.tolerances.now names c.args.left.now.rows c.deref.result.now c.args.right.now.rows in
    let many : length js ≡ c.count.result = length-range_with_len 0 (length c.args.right.now.rows) ∙ sym c.count.ensures in
    let width : length names ≡ c.width.result = sym c.requires.right_width ∙ sym c.width.ensures in
    (flat_map row js, c.in-Ok.ensures, all_cells row (length names) each js ∙ (ap (λ n. length names * n) many ∙ ap (λ w. w * c.count.result) width))

pub returns-in-Ok-new : goal.returns-in-Ok-new
returns-in-Ok-new c =
    let names = offset_strings (λ x. x) c.args.names.now in
    let row = row_beside c.args.tolerances.now names c.args.left.now.rows c.deref.result.now c.args.right.now.rows in
    let js = range_with_len 0 (length c.args.right.now.rows) in
    let each = beside_count c.args.tolerances.now names c.args.left.now.rows c.deref.result.now c.args.right.now.rows in
    let many : length js ≡ c.count.result = length-range_with_len 0 (length c.args.right.now.rows) ∙ sym c.count.ensures in
    let width : length names ≡ c.width.result = sym c.requires.right_width ∙ sym c.width.ensures in
    record {
      width = c.in-Ok-new.ensures.0 ∙ c.width.ensures;
      rows = record {
        partners = c.deref.result.now;
        are_partners = rw c.deref.ensures.value c.in_ok-partners.ensures;
        rows = c.in-Ok-new.ensures.1 (flat_map row js) c.in-Ok.ensures
            ∙ (ap (λ w. cut_rows w c.count.result (flat_map row js)) (sym width)
            ∙ (ap (λ n. cut_rows (length names) n (flat_map row js)) (sym many) ∙ cut_kept row (length names) each js));
      };
    }
