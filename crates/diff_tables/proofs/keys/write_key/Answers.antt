use Rattle.std.proofs.Common.{arith, ◌≡◌, ◌<◌, ◌∙◌, ap, refl, ◌++◌, [], ◌+◌, get_or, take}
use Rattle.std.proofs.lemmas.List.{take_all}
use Rattle.std.proofs.lemmas.List.Elements.{All-get_or}
use Rattle.diff_tables.specs.Keys.{escaped, row_key}
use Rattle.diff_tables.proofs.KeyLemmas.{key_more}
use Rattle.diff_tables.proofs.keys.write_key.Goals as goal

pub loop-column-init : goal.loop-column-init
unfolding row_key
loop-column-init c = c.clear.ensures.items

pub cell-requires : goal.cell-requires
cell-requires c = record {
  row = c.requires.row;
  column = All-get_or (λ k. k < c.args.table.now.width) c.args.columns.now c.loop-column.column-index 0 (omega arith) c.requires.columns;
}

pub loop-column-preserved : goal.loop-column-preserved
loop-column-preserved c =
    let row = get_or c.args.table.now.rows c.args.i [] in
    let cell : c.cell.result.now ≡ get_or (get_or c.args.table.now.rows c.args.i []) (get_or c.args.columns.now c.loop-column.column-index 0) [] = c.cell.ensures in
    c.in_ok-push_escaped.ensures
    ∙ (ap (λ l. l ++ escaped c.cell.result.now) c.loop-column.invariant
    ∙ (ap (λ x. row_key (take c.loop-column.column-index c.args.columns.now) (get_or c.args.table.now.rows c.args.i []) ++ escaped x) cell
    ∙ key_more c.args.columns.now (get_or c.args.table.now.rows c.args.i []) c.loop-column.column-index (c.loop-column.column-index + 1) (omega arith) refl))

pub returns : goal.returns
returns c =
    let all : take c.loop-column.column-index c.args.columns.now ≡ c.args.columns.now = take_all c.loop-column.column-index c.args.columns.now (omega arith) in
    c.loop-column.invariant ∙ ap (λ l. row_key l (get_or c.args.table.now.rows c.args.i [])) all
