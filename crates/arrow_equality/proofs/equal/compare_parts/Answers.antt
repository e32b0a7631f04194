use Rattle.std.proofs.lemmas.Result.{IfErr-weaker, IfOk-weaker, err_from_is_err_and}
use Rattle.arrow_arrays.specs.Columns.{rows_of_parts}
use Rattle.arrow_equality.proofs.Comparisons.{columns-compared, left-refused, pair-refused, right-refused}
use Rattle.arrow_equality.specs.Compared.{AreCompared, IsRefusedPair}
use Rattle.arrow_equality.specs.Equal.{IsComparison, IsRefusedComparison}
use Rattle.arrow_equality.proofs.equal.compare_parts.Goals as goal

pub returns-in_err-left-clause-refused : goal.returns-in_err-left-clause-refused
returns-in_err-left-clause-refused c =
    let p = err_from_is_err_and c.from_residual.result c.from_residual.ensures.1 in
    rw (p.1, p.2) (left-refused c.args.left.now c.args.right.now _ c.in_err-left.ensures.refused)

pub returns-in_err-right-clause-refused : goal.returns-in_err-right-clause-refused
returns-in_err-right-clause-refused c =
    let p = err_from_is_err_and c.from_residual-in_err-right.result c.from_residual-in_err-right.ensures.1 in
    rw (p.1, p.2) (right-refused c.args.left.now c.args.right.now _ c.in_err-right.ensures.refused)

pub returns-clause-compared : goal.returns-clause-compared
returns-clause-compared c =
    IfOk-weaker c.compare_arrays.result (AreCompared c.in_ok-left.left c.in_ok-right.right) (IsComparison (rows_of_parts c.args.left.now) (rows_of_parts c.args.right.now))
    (λ compared are. columns-compared c.in_ok-left.left c.in_ok-right.right (rows_of_parts c.args.left.now) (rows_of_parts c.args.right.now) compared c.in_ok-left.ensures.stands c.in_ok-right.ensures.stands are) c.compare_arrays.ensures.compared

pub returns-clause-refused : goal.returns-clause-refused
returns-clause-refused c =
    IfErr-weaker c.compare_arrays.result (IsRefusedPair c.in_ok-left.left c.in_ok-right.right) (IsRefusedComparison c.args.left.now c.args.right.now)
    (λ r told. pair-refused c.args.left.now c.args.right.now c.in_ok-left.left c.in_ok-right.right r c.in_ok-left.ensures.stands c.in_ok-right.ensures.stands told) c.compare_arrays.ensures.refused
