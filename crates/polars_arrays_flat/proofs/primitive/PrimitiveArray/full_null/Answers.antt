use Rattle.std.proofs.Common.{◌∙◌, refl, sym}
use Rattle.std.proofs.lemmas.List.{length-replicate}
use Rattle.std.proofs.lemmas.Result.{err_from_is_err_and}
use Rattle.polars_arrays_flat.proofs.RowWindows.{number_rows-unset}
use Rattle.polars_arrays_flat.proofs.primitive.PrimitiveArray.full_null.Goals as goal

pub returns-in_err-values-clause-stored : goal.returns-in_err-values-clause-stored
returns-in_err-values-clause-stored g c =
    let error = err_from_is_err_and c.from_residual.result c.from_residual.ensures.1 in
    rw (error.1, error.2) c.in_err-values.ensures

pub returns-in_err-validity-clause-stored : goal.returns-in_err-validity-clause-stored
returns-in_err-validity-clause-stored g c =
    let error = err_from_is_err_and c.from_residual-in_err-validity.result c.from_residual-in_err-validity.ensures.1 in
    rw (error.1, error.2) c.in_err-validity.ensures

pub invariant_of-result : goal.invariant_of-result
invariant_of-result g c =
    rw (c.in_ok-values.ensures, c.in_ok-validity.ensures) (length-replicate _ _ ∙ sym (length-replicate _ _))

pub returns-clause-stored : goal.returns-clause-stored
returns-clause-stored g c = rw (c.in_ok-values.ensures, c.in_ok-validity.ensures, c.zero.ensures) refl

pub returns-clause-rows : goal.returns-clause-rows
returns-clause-rows g c =
    rw (c.in_ok-values.ensures, c.in_ok-validity.ensures) (number_rows-unset g.T.Number.value c.args.len c.zero.result)
