use Rattle.std.proofs.Common.{true, false}
use Rattle.std.proofs.lemmas.Result.{MatchResult-weaker}
use Rattle.polars_compare_leaves.specs.Sameness.{other_row, same_row}
use Rattle.arrow_columns.proofs.Compared.{equal-joins, joined-rows, unequal-joins}
use Rattle.arrow_columns.proofs.comparing.compare.Goals as goal

pub returns-in-Equal-clause-bits : goal.returns-in-Equal-clause-bits
returns-in-Equal-clause-bits g c =
    MatchResult-weaker c.join.result c.join.ensures.joined
    (λ bits joined.
    rw c.in-Equal.is
    (joined-rows g.T.Number.value c.args.left.now.validity c.args.right.now.validity c.args.left.now.values c.args.right.now.values c.join.ensures.left_bits c.join.ensures.right_bits c.requires true same_row equal-joins bits joined))
    (λ error m. m)

pub returns-in-Unequal-clause-bits : goal.returns-in-Unequal-clause-bits
returns-in-Unequal-clause-bits g c =
    MatchResult-weaker c.join-in-Unequal.result c.join-in-Unequal.ensures.joined
    (λ bits joined.
    rw c.in-Unequal.is
    (joined-rows g.T.Number.value c.args.left.now.validity c.args.right.now.validity c.args.left.now.values c.args.right.now.values c.join-in-Unequal.ensures.left_bits c.join-in-Unequal.ensures.right_bits c.requires false other_row unequal-joins bits joined))
    (λ error m. m)
