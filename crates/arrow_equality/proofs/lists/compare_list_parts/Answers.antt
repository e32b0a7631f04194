use Rattle.std.proofs.Common.{◌≡◌, ◌∙◌, ap, sym}
use Rattle.std.specs.Prelude.{Some}
use Rattle.arrow_parts.specs.Kinds.{kind_number}
use Rattle.arrow_parts.specs.declared.part.PartKind.{PartKind}
use Rattle.arrow_parts.specs.declared.part.PartKind.TheVariants as kind
use Rattle.arrow_arrays.specs.Columns.{far_ends, near_ends}
use Rattle.arrow_equality.proofs.ListColumns.{found-good-lists, found-lists, list-LargeList, list-List}
use Rattle.arrow_equality.proofs.lists.compare_list_parts.Goals as goal

pub returns-in-Some-List-clause-compared : goal.returns-in-Some-List-clause-compared
returns-in-Some-List-clause-compared c =
    let left : kind_number c.args.left.now.kind ≡ Some kind.List = sym c.of.ensures ∙ c.in-Some-List.is ∙ ap (λ (k : PartKind). Some k) c.in-Some-List.field-0-is in
    let right : kind_number c.args.right.now.kind ≡ Some kind.List = ap kind_number (sym c.if-left-right.false) ∙ left in
    found-lists c.law_tally.ensures.within kind.List near_ends list-List c.args.left.now c.args.left_items.now c.args.right.now c.args.right_items.now c.compare_between.result left right c.compare_between.ensures

pub returns-in-Some-List-clause-good : goal.returns-in-Some-List-clause-good
returns-in-Some-List-clause-good c =
    let left : kind_number c.args.left.now.kind ≡ Some kind.List = sym c.of.ensures ∙ c.in-Some-List.is ∙ ap (λ (k : PartKind). Some k) c.in-Some-List.field-0-is in
    let right : kind_number c.args.right.now.kind ≡ Some kind.List = ap kind_number (sym c.if-left-right.false) ∙ left in
    found-good-lists c.law_tally.ensures.within kind.List near_ends list-List c.args.left.now c.args.left_items.now c.args.right.now c.args.right_items.now c.compare_between.result left right c.compare_between.ensures

pub returns-in-Some-LargeList-clause-compared : goal.returns-in-Some-LargeList-clause-compared
returns-in-Some-LargeList-clause-compared c =
    let left : kind_number c.args.left.now.kind ≡ Some kind.LargeList = sym c.of.ensures ∙ c.in-Some-LargeList.is ∙ ap (λ (k : PartKind). Some k) c.in-Some-LargeList.field-0-is in
    let right : kind_number c.args.right.now.kind ≡ Some kind.LargeList = ap kind_number (sym c.if-left-right.false) ∙ left in
    found-lists c.law_tally.ensures.within kind.LargeList far_ends list-LargeList c.args.left.now c.args.left_items.now c.args.right.now c.args.right_items.now c.compare_between-in-Some-LargeList.result left right c.compare_between-in-Some-LargeList.ensures

pub returns-in-Some-LargeList-clause-good : goal.returns-in-Some-LargeList-clause-good
returns-in-Some-LargeList-clause-good c =
    let left : kind_number c.args.left.now.kind ≡ Some kind.LargeList = sym c.of.ensures ∙ c.in-Some-LargeList.is ∙ ap (λ (k : PartKind). Some k) c.in-Some-LargeList.field-0-is in
    let right : kind_number c.args.right.now.kind ≡ Some kind.LargeList = ap kind_number (sym c.if-left-right.false) ∙ left in
    found-good-lists c.law_tally.ensures.within kind.LargeList far_ends list-LargeList c.args.left.now c.args.left_items.now c.args.right.now c.args.right_items.now c.compare_between-in-Some-LargeList.result left right c.compare_between-in-Some-LargeList.ensures
