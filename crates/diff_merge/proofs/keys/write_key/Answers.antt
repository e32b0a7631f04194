use Rattle.std.proofs.Common.{arith, ◌≡◌, ◌∙◌, ap, refl, ◌++◌, [], ◌+◌, get_or, take}
use Rattle.std.proofs.lemmas.List.{take_all}
use Rattle.diff_merge.specs.Rows.{cells_of}
use Rattle.diff_tables.specs.Keys.{escaped, row_key}
use Rattle.diff_tables.proofs.KeyLemmas.{key_more}
use Rattle.diff_merge.proofs.keys.write_key.Goals as goal

pub loop-column-init : goal.loop-column-init
unfolding row_key
loop-column-init c = c.clear.ensures.items

pub loop-column-preserved : goal.loop-column-preserved
loop-column-preserved c =
    let cell : c.cell.result.now ≡ get_or (cells_of c.args.row.now) (get_or c.args.columns.now c.loop-column.column-index 0) [] = c.cell.ensures in
    c.in_ok-push_escaped.ensures
    ∙ (ap (λ l. l ++ escaped c.cell.result.now) c.loop-column.invariant
    ∙ (ap (λ x. row_key (take c.loop-column.column-index c.args.columns.now) (cells_of c.args.row.now) ++ escaped x) cell
    ∙ key_more c.args.columns.now (cells_of c.args.row.now) c.loop-column.column-index (c.loop-column.column-index + 1) (omega arith) refl))

pub returns : goal.returns
returns c =
    let all : take c.loop-column.column-index c.args.columns.now ≡ c.args.columns.now = take_all c.loop-column.column-index c.args.columns.now (omega arith) in
    c.loop-column.invariant ∙ ap (λ l. row_key l (cells_of c.args.row.now)) all
