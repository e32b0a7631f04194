use Rattle.std.proofs.Common.{◌≡◌, ◌+◌, ℕ, sym, subst}
use Rattle.std.specs.Prelude.{IfOk}
use Rattle.std.proofs.lemmas.Result.{MatchResult-weaker}
use Rattle.polars_compare_nested.proofs.LeafSorts.{leaf_bit, leaf_tally}
use Rattle.polars_compare_nested.proofs.leaf_entries.equal_leaves.Goals as goal

pub returns-clause-told : goal.returns-clause-told
returns-clause-told g c =
    MatchResult-weaker c.leaf_row_eq.result c.leaf_row_eq.ensures.told
    (λ bit says. leaf_bit g.K.LeafKernel.agree c.args.left.now c.args.right.now c.args.a c.args.b bit c.requires.leaves c.requires.windows.one_type c.requires.windows.left_in c.requires.windows.right_in says)
    (λ e memory. memory)

pub returns-clause-counted : goal.returns-clause-counted
returns-clause-counted g c =
    subst (λ (k : ℕ). IfOk c.leaf_row_eq.result (λ _. g.K.LeafKernel.count c.leaf_row_eq.new.self ≡ g.K.LeafKernel.count c.args.steps.now + k))
    (sym (leaf_tally c.args.left.now c.args.right.now c.args.a c.args.b 1 c.requires.leaves)) c.leaf_row_eq.ensures.counted
