use Rattle.std.proofs.Common.{◌∙◌, ap, rules, subst, sym}
use Rattle.polars_compute_slots.specs.State.{range_of}
use Rattle.polars_compute_unique.specs.Trees.{HaveRange, leftmost}
use Rattle.polars_compute_unique.specs.declared.merge.MergeTree.{MergeTree, the_lemmas}
use Rattle.polars_compute_unique.proofs.Merges.{own-range, tree-range}
use Rattle.polars_compute_unique.proofs.merge.+merge_tree.Goals as goal

pub merge_tree-other-requires : goal.merge_tree-other-requires
merge_tree-other-requires g t c κs within =
    let state = g.S.RangedUniqueKernel.state in
    let have = subst (λ (tree : MergeTree g.row.S.Denot). HaveRange state (range_of (state (leftmost tree))) tree) c.in-Node.is c.requires in
    let right = own-range state _ c.in-Node.right.value have.1 in
    (search (rules, the_lemmas), (search rules, (search rules, subst (λ (tree : MergeTree g.row.S.Denot). HaveRange state (range_of (state (leftmost tree))) tree) (sym c.into_inner-in-Node.ensures) right)))

pub append_state-requires : goal.append_state-requires
append_state-requires g t c =
    let state = g.S.RangedUniqueKernel.state in
    let have = subst (λ (tree : MergeTree g.row.S.Denot). HaveRange state (range_of (state (leftmost tree))) tree) c.in-Node.is c.requires in
    let left_have = subst (λ (tree : MergeTree g.row.S.Denot). HaveRange state (range_of (state (leftmost c.in-Node.left.value))) tree) (sym c.into_inner.ensures) have.0 in
    let right_have = subst (λ (tree : MergeTree g.row.S.Denot). HaveRange state (range_of (state (leftmost c.in-Node.left.value))) tree) (sym c.into_inner-in-Node.ensures) have.1 in
    ap range_of c.merge_tree-merged.ensures.state
    ∙ tree-range state _ c.into_inner.result left_have
    ∙ sym (ap range_of c.merge_tree-other.ensures.state ∙ tree-range state _ c.into_inner-in-Node.result right_have)
