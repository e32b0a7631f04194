use Rattle.std.proofs.Common.{◌∙◌, ◌≡◌, [], ◌++◌, ◌∷◌, subst, sym, arith, ap, length, false, true}
use Rattle.std.proofs.lemmas.Grind.{common_steps}
use Rattle.std.proofs.lemmas.List.{flat_map_more}
use Rattle.std.specs.List.{flat_map}
use Rattle.csv.specs.Records.{fields_of}
use Rattle.diff_csv.specs.Rows.{is_read, records_read}
use Rattle.diff_tables.specs.Keys.{cells_at}
use Rattle.diff_tables.specs.Strings.{AreStrings}
use Rattle.diff_csv.proofs.RowLemmas.{number_left_out, number_read, row_left_out, row_read}
use Rattle.diff_csv.proofs.rows.Rows.push.Goals as goal

pub returns-then-not-is_read : goal.returns-then-not-is_read
returns-then-not-is_read c = λ rows number old.
    let w = c.args.wanted.now in
    let out : is_read w.part w.keys.now (cells_at w.columns.now (fields_of c.args.row.now)) ≡ false = sym c.is_read.ensures ∙ c.if-not-is_read.true in
    let same = row_left_out w.columns.now w.keys.now w.part rows (fields_of c.args.row.now) out in
    record {
      cells = subst (λ rs. AreStrings c.args.self.now.cells (flat_map (cells_at c.args.wanted.now.columns.now) rs)) (sym same) old.cells;
      lines = old.lines ∙ ap length (sym same);
      numbers = number_left_out w.columns.now w.keys.now w.part rows (fields_of c.args.row.now) _ out old.numbers;
    }

pub returns : goal.returns
returns c = λ rows number old.
    let w = c.args.wanted.now in
    let read : is_read w.part w.keys.now (cells_at w.columns.now (fields_of c.args.row.now)) ≡ true = sym c.is_read.ensures ∙ c.if-not-is_read.false in
    let same = row_read w.columns.now w.keys.now w.part rows (fields_of c.args.row.now) read in
    let more = flat_map_more (cells_at c.args.wanted.now.columns.now) [] (records_read w.columns.now w.keys.now w.part rows) (fields_of c.args.row.now) in
    let cells = subst (λ s. AreStrings c.push_cells.new.strings s) more (c.in_ok-push_cells.ensures _ old.cells) in
    let grown : length c.push.new.self.items ≡ length (records_read c.args.wanted.now.columns.now c.args.wanted.now.keys.now c.args.wanted.now.part rows ++ fields_of c.args.row.now ∷ []) =
    grind (arith, common_steps, old.lines) in
    record {
      cells = subst (λ rs. AreStrings c.push_cells.new.strings (flat_map (cells_at c.args.wanted.now.columns.now) rs)) (sym same) cells;
      lines = grown ∙ ap length (sym same);
      numbers = number_read w.columns.now w.keys.now w.part rows (fields_of c.args.row.now) c.args.number c.args.self.now.numbers.items c.push_number.new.numbers.items read number old.numbers c.in_ok-push_number.ensures;
    }
