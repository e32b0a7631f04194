use Rattle.std.proofs.Common.{◌≡◌, ◌∙◌, ◌+◌, ◌*◌, suc, length, sym, ap, arith}
use Rattle.std.proofs.lemmas.List.{length-map}
use Rattle.std.specs.List.{flat_map}
use Rattle.diff_tables.specs.Tables.{cut_rows}
use Rattle.json_paths.specs.Views.{path_view, paths_view}
use Rattle.document_rows.specs.Documents.{document_row}
use Rattle.document_rows.specs.Numbers.{numbered_line, numbered_lines}
use Rattle.document_rows.proofs.DocumentLemmas.{row_count}
use Rattle.document_rows.proofs.RowLemmas.{all_cells, cut_kept}
use Rattle.document_rows.proofs.read.table_of.Goals as goal

pub new-requires : goal.new-requires
new-requires c =
    let (_, all, h) = c.requires in
    let keys = paths_view c.args.keys.now in
    let lines = numbered_lines all c.args.rows.lines.items in
    let width : suc (length keys) ≡ length c.args.keys.now + 1 = omega (arith, length-map c.args.keys.now path_view) in
    let count = all_cells (document_row keys) (suc (length keys)) (row_count keys) lines in
    let len : c.len.result ≡ length lines = c.len.ensures ∙ (c.args.rows.lines.ok.0 ∙ sym (length-map c.args.rows.lines.items (numbered_line all))) in
    (flat_map (document_row keys) lines, h.cells, count ∙ (ap (λ n. suc (length keys) * n) (sym len) ∙ ap (λ w. w * c.len.result) width))

pub returns-in-Ok : goal.returns-in-Ok
returns-in-Ok c = λ reading all h.
    let keys = paths_view c.args.keys.now in
    let lines = numbered_lines all c.args.rows.lines.items in
    let cells = flat_map (document_row keys) lines in
    let width : suc (length keys) ≡ length c.args.keys.now + 1 = omega (arith, length-map c.args.keys.now path_view) in
    let len : c.len.result ≡ length lines = c.len.ensures ∙ (c.args.rows.lines.ok.0 ∙ sym (length-map c.args.rows.lines.items (numbered_line all))) in
    record {
      numbered = h.numbered;
      table = record {
        documents = h.documents;
        width = c.in-Ok.ensures.0 ∙ sym width;
        rows = c.in-Ok.ensures.1 cells h.cells
            ∙ (ap (λ w. cut_rows w c.len.result cells) (sym width) ∙ (ap (λ n. cut_rows (suc (length keys)) n cells) len ∙ cut_kept (document_row keys) (suc (length keys)) (row_count keys) lines));
      };
    }
