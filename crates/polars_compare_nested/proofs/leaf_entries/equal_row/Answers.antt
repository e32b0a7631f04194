use Rattle.std.proofs.Common.{◌≡◌, ◌+◌, ℕ, arith, subst}
use Rattle.std.specs.Prelude.{IfOk}
use Rattle.std.proofs.lemmas.Result.{MatchResult-weaker}
use Rattle.polars_compare_nested.proofs.RawRows.{entry_bit, entry_count, entry_none}
use Rattle.polars_compare_nested.proofs.leaf_entries.equal_row.Goals as goal

pub returns-in-Some-clause-told : goal.returns-in-Some-clause-told
returns-in-Some-clause-told g c =
    let entries = rw c.in-Some.is at c.block_entries.ensures in
    MatchResult-weaker c.equal_leaves.result c.equal_leaves.ensures.told
    (λ bit says. entry_bit g.K.LeafKernel.agree c.args.left.now.array.now c.args.right.now.array.now (c.args.left.now.at + c.args.i) (c.args.right.now.at + c.args.i) _ _ c.in-Some.pair bit c.requires.windows.left_good c.requires.windows.right_good (omega (arith, c.requires.windows.left_in)) (omega (arith, c.requires.windows.right_in)) c.values-entries.ensures.values c.values-others.ensures.values entries says)
    (λ e memory. memory)

pub returns-in-Some-clause-counted : goal.returns-in-Some-clause-counted
returns-in-Some-clause-counted g c =
    let entries = rw c.in-Some.is at c.block_entries.ensures in
    subst (λ (k : ℕ). IfOk c.equal_leaves.result (λ _. g.K.LeafKernel.count c.equal_leaves.new.steps ≡ g.K.LeafKernel.count c.args.steps.now + k))
    (entry_count c.args.left.now.array.now c.args.right.now.array.now (c.args.left.now.at + c.args.i) (c.args.right.now.at + c.args.i) _ _ c.in-Some.pair c.values-entries.ensures.values c.values-others.ensures.values entries) c.equal_leaves.ensures.counted

pub returns-in-None-clause-told : goal.returns-in-None-clause-told
returns-in-None-clause-told g c =
    entry_none _ c.args.left.now.array.now c.args.right.now.array.now (c.args.left.now.at + c.args.i) (c.args.right.now.at + c.args.i) _ c.requires.windows.left_good c.requires.windows.right_good (omega (arith, c.requires.windows.left_in)) (omega (arith, c.requires.windows.right_in)) (rw c.in-None.is at c.block_entries.ensures)
