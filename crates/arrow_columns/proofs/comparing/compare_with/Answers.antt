use Rattle.std.proofs.Common.{◌∙◌}
use Rattle.std.proofs.lemmas.Result.{MatchResult-weaker}
use Rattle.polars_arrays_flat.specs.ArrayRows.{number_rows}
use Rattle.arrow_columns.proofs.Compared.{equal-rows}
use Rattle.arrow_columns.proofs.comparing.compare_with.Goals as goal

pub returns-in-Equal-clause-bits : goal.returns-in-Equal-clause-bits
returns-in-Equal-clause-bits g c =
    MatchResult-weaker c.compare_present_with.result c.compare_present_with.ensures.bits
    (λ bits e. rw c.in-Equal.is (e ∙ equal-rows (g.T.Number.value c.args.right) (number_rows g.T.Number.value c.args.left.now)))
    (λ error m. m)
