use Rattle.std.proofs.Common.{◌≡◌, ◌+◌, IfOk, subst}
use Rattle.std.proofs.lemmas.Result.{MatchResult-weaker}
use Rattle.polars_arrays_bits.specs.Costs.{cost_of}
use Rattle.polars_arrays_views.specs.Parts.{view_strings}
use Rattle.polars_compare_leaves.specs.Followed.{pair_cost}
use Rattle.polars_compare_leaves.specs.Pairs.{compared_pair}
use Rattle.polars_compare_leaves.proofs.Tested.{length-pairs, tests-all}
use Rattle.polars_compare_leaves.proofs.view_windows.compare_view_windows.Goals as goal

pub returns-clause-told : goal.returns-clause-told
returns-clause-told g c =
    MatchResult-weaker c.from_counted.result c.from_counted.ensures.told
    (λ bits e. tests-all g.E.ViewComparison.rows (view_strings c.args.left.now) (view_strings c.args.right.now) c.args.a c.args.b c.args.n bits e)
    (λ error m. m)

pub returns-clause-counted : goal.returns-clause-counted
returns-clause-counted g c =
    subst
    (λ m. IfOk c.from_counted.result (λ x. c.from_counted.new.steps ≡ c.args.steps.now + cost_of (pair_cost g.E.ViewComparison.follows (view_strings c.args.left.now) (view_strings c.args.right.now) c.args.a c.args.b) 0 m))
    (length-pairs (compared_pair g.E.ViewComparison.rows (view_strings c.args.left.now) (view_strings c.args.right.now) c.args.a c.args.b) c.args.n)
    c.from_counted.ensures.counted
