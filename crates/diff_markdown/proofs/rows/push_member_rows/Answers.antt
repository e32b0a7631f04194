use Rattle.std.proofs.Common.{rules, arith, ◌≡◌, ◌++◌, ◌∙◌, sym, ap, subst}
use Rattle.json.specs.Tree.{HasNumbers, MembersHaveNumbers}
use Rattle.json.specs.Value.{members_view, value_view}
use Rattle.diff_markdown.specs.Rows.{change_row, member_rows}
use Rattle.diff_lines.specs.PartLaws.{member_numbers}
use Rattle.diff_markdown.proofs.PartLemmas.{all_member_rows, member_row_written}
use Rattle.diff_markdown.proofs.rows.push_member_rows.Goals as goal

pub push_change-requires : goal.push_change-requires
push_change-requires c =
    let xs = c.deref-change-items.result.now in
    let x = c.change-item.result in
    let numbers : MembersHaveNumbers (members_view xs) = subst (λ ys. MembersHaveNumbers (members_view ys)) (sym c.deref-change-items.ensures.value) c.requires in
    let mine : HasNumbers (value_view x.1) = subst (λ y. HasNumbers (value_view y.1)) (sym c.change-item.is) (member_numbers xs c.loop-change.change-index x (omega arith) numbers) in
    search rules

pub loop-change-preserved : goal.loop-change-preserved
loop-change-preserved c =
    let x = c.change-item.result in
    let written : c.push_change.new.out.items ≡ c.loop-change.out.items ++ change_row c.args.name.now x.0.now (value_view x.1) = search rules in
    member_row_written _ _ _ c.args.name.now c.deref-change-items.result.now c.loop-change.change-index x (omega arith) c.change-item.is c.loop-change.invariant written

pub returns : goal.returns
returns c =
    all_member_rows _ _ c.args.name.now c.deref-change-items.result.now c.loop-change.change-index (omega arith) c.loop-change.invariant
    ∙ ap (λ ms. c.args.out.now.items ++ member_rows c.args.name.now (members_view ms)) c.deref-change-items.ensures.value
