use Rattle.std.proofs.Common.{◌∙◌, ◌*◌, length, sym, ap}
use Rattle.std.proofs.lemmas.List.{length-map}
use Rattle.std.specs.List.{flat_map}
use Rattle.std.specs.Prelude.{option_map}
use Rattle.diff_csv.specs.Rows.{records_read}
use Rattle.diff_tables.specs.Keys.{cells_at}
use Rattle.diff_tables.specs.Tables.{cut_rows}
use Rattle.diff_csv.proofs.RowLemmas.{all_cells, cells_count, cut_kept, numbers_told, rows_read}
use Rattle.diff_csv.proofs.source.table_of.Goals as goal

pub new-requires : goal.new-requires
new-requires c =
    let (held, h) = c.requires in
    let w = c.args.wanted.now in
    let kept = records_read w.columns.now w.keys.now w.part held in
    let count = all_cells (cells_at w.columns.now) (length w.columns.now) (cells_count w.columns.now) kept in
    (flat_map (cells_at w.columns.now) kept, h.cells, count ∙ ap (λ n. length c.args.wanted.now.columns.now * n) (sym (c.len.ensures ∙ (c.args.rows.lines.ok.0 ∙ h.lines))))

pub returns-in-Ok : goal.returns-in-Ok
returns-in-Ok c = λ held h.
    let w = c.args.wanted.now in
    let kept = records_read w.columns.now w.keys.now w.part held in
    let cut = cut_kept (cells_at w.columns.now) (length w.columns.now) (cells_count w.columns.now) kept in
    let own = c.in-Ok.ensures.1 (flat_map (cells_at w.columns.now) kept) h.cells
    ∙ (ap (λ n. cut_rows (length c.args.wanted.now.columns.now) n (flat_map (cells_at c.args.wanted.now.columns.now) (records_read c.args.wanted.now.columns.now c.args.wanted.now.keys.now c.args.wanted.now.part held))) (c.len.ensures ∙ (c.args.rows.lines.ok.0 ∙ h.lines)) ∙ cut) in
    let rows = own ∙ rows_read w.columns.now w.keys.now w.part held in
    record {
      width = c.in-Ok.ensures.0;
      rows = rows;
      lines = h.lines ∙ (sym (length-map kept (cells_at w.columns.now)) ∙ ap length (sym own));
      numbers = ap (λ ns. option_map (λ v. v.items) ns) c.numbers_of-numbers.ensures ∙ numbers_told w.columns.now w.keys.now w.part held c.args.rows.numbers h.numbers;
    }
