use Rattle.std.proofs.Common.{◌≡◌, ◌+◌, ℕ, sym, subst}
use Rattle.std.specs.Prelude.{IfOk}
use Rattle.std.proofs.lemmas.Result.{MatchResult-weaker}
use Rattle.polars_arrays_words.specs.Bits.{first_of, is_bit}
use Rattle.polars_compare_nested.proofs.FewRows.{whole_same}
use Rattle.polars_compare_nested.proofs.LeafSorts.{leaf_tally}
use Rattle.polars_compare_nested.proofs.few_leaves.same_few.Goals as goal

pub returns-clause-told : goal.returns-clause-told
returns-clause-told g c =
    MatchResult-weaker c.leaf_word_eq.result c.leaf_word_eq.ensures.told
    (λ word says. whole_same g.K.LeafKernel.agree c.args.left.now c.args.right.now c.args.a c.args.b c.args.n (first_of (is_bit word) c.args.n) c.requires.windows c.requires.few.whole says)
    (λ e memory. memory)

pub returns-clause-counted : goal.returns-clause-counted
returns-clause-counted g c =
    subst (λ (k : ℕ). IfOk c.leaf_word_eq.result (λ _. g.K.LeafKernel.count c.leaf_word_eq.new.self ≡ g.K.LeafKernel.count c.args.steps.now + k))
    (sym (leaf_tally c.args.left.now c.args.right.now c.args.a c.args.b c.args.n c.requires.few.whole.leaves)) c.leaf_word_eq.ensures.counted
