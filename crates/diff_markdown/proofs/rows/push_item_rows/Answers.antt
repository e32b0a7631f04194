use Rattle.std.proofs.Common.{arith, ◌++◌, ◌∙◌, sym, ap, subst}
use Rattle.json.specs.Tree.{HasNumbers, ItemsHaveNumbers}
use Rattle.json.specs.Value.{items_view, value_view}
use Rattle.diff_markdown.specs.Rows.{item_rows}
use Rattle.diff_lines.specs.PartLaws.{item_numbers}
use Rattle.diff_markdown.proofs.PartLemmas.{all_item_rows, item_row_written}
use Rattle.diff_markdown.proofs.rows.push_item_rows.Goals as goal

pub push_change-requires : goal.push_change-requires
push_change-requires c =
    let xs = c.deref-change-items.result.now in
    let x = c.change-item.result in
    let numbers : ItemsHaveNumbers (items_view xs) = subst (λ ys. ItemsHaveNumbers (items_view ys)) (sym c.deref-change-items.ensures.value) c.requires in
    subst (λ y. HasNumbers (value_view y)) (sym c.change-item.is) (item_numbers xs c.loop-change.change-index x (omega arith) numbers)

pub loop-change-preserved : goal.loop-change-preserved
loop-change-preserved c =
    item_row_written _ _ _ c.args.name.now _ c.deref-change-items.result.now c.loop-change.change-index c.change-item.result (omega arith) c.change-item.is c.loop-change.invariant
    c.string_at.ensures c.in_ok-push_change.ensures

pub returns : goal.returns
returns c =
    all_item_rows _ _ c.args.name.now c.deref-change-items.result.now c.loop-change.change-index (omega arith) c.loop-change.invariant
    ∙ ap (λ js. c.args.out.now.items ++ item_rows c.args.name.now (items_view js)) c.deref-change-items.ensures.value
