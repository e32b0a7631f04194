use Rattle.std.proofs.Common.{◌<◌, ◌∙◌, ℕ, [], arith, get_or, length, sym}
use Rattle.std.proofs.lemmas.List.{get_or-map}
use Rattle.csv.specs.Records.{fields_of}
use Rattle.diff_csv.proofs.RowLemmas.{cells_count}
use Rattle.diff_csv.proofs.rows.CellsStringList.string.Goals as goal

pub returns : goal.returns
returns c =
    let columns = c.args.self.now.columns.now in
    let fields = fields_of c.args.self.now.row.now in
    let within : c.args.i < length columns = omega (arith, cells_count columns fields, c.requires) in
    c.cell.ensures ∙ sym (get_or-map (λ (k : ℕ). get_or fields k []) columns c.args.i 0 [] within)
