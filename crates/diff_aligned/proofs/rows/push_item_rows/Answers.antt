use Rattle.std.proofs.Common.{rules, arith, ◌≡◌, ◌++◌, ◌∷◌, [], ◌∙◌, sym, ap, subst}
use Rattle.json.specs.Tree.{HasNumbers, ItemsHaveNumbers}
use Rattle.json.specs.Value.{items_view, value_view}
use Rattle.diff_aligned.specs.Rows.{change_row, item_rows, rows_view}
use Rattle.diff_aligned.specs.declared.rows.Mark.TheVariants.{Changed}
use Rattle.diff_lines.specs.PartLaws.{item_numbers}
use Rattle.diff_aligned.proofs.PartLemmas.{all_item_rows, item_row_written}
use Rattle.diff_aligned.proofs.rows.push_item_rows.Goals as goal

pub push_change-requires : goal.push_change-requires
push_change-requires c =
    let xs = c.deref-change-items.result.now in
    let x = c.change-item.result in
    let numbers : ItemsHaveNumbers (items_view xs) = subst (λ ys. ItemsHaveNumbers (items_view ys)) (sym c.deref-change-items.ensures.value) c.requires in
    subst (λ y. HasNumbers (value_view y)) (sym c.change-item.is) (item_numbers xs c.loop-change.change-index x (omega arith) numbers)

pub loop-change-preserved : goal.loop-change-preserved
loop-change-preserved c =
    let x = c.change-item.result in
    let written : rows_view c.push_change.new.rows.items ≡ rows_view c.loop-change.rows.items ++ change_row c.loop-change.mark c.loop-change.key.items c.string_at.result.now (value_view x) ∷ [] = search rules in
    let next = item_row_written _ _ _ c.loop-change.mark c.loop-change.key.items c.string_at.result.now c.deref-change-items.result.now c.loop-change.change-index x (omega arith) c.change-item.is c.loop-change.invariant c.string_at.ensures written in
    search (rules, next)

pub returns : goal.returns
returns c =
    all_item_rows _ _ c.loop-change.mark c.loop-change.key.items c.deref-change-items.result.now c.loop-change.change-index (omega arith) c.loop-change.invariant
    ∙ ap (λ js. rows_view c.args.rows.now.items ++ item_rows Changed c.args.name.items (items_view js)) c.deref-change-items.ensures.value
