use Rattle.std.proofs.Common.{refl}
use Rattle.std.proofs.lemmas.List.{length-replicate}
use Rattle.std.proofs.lemmas.Result.{err_from_is_err_and}
use Rattle.polars_arrays_flat.proofs.RowWindows.{number_rows-filled}
use Rattle.polars_arrays_flat.proofs.primitive.PrimitiveArray.fill_with.Goals as goal

pub returns-in_err-values-clause-stored : goal.returns-in_err-values-clause-stored
returns-in_err-values-clause-stored g c =
    let error = err_from_is_err_and c.from_residual.result c.from_residual.ensures.1 in
    rw (error.1, error.2) c.in_err-values.ensures.filled

pub invariant_of-result : goal.invariant_of-result
invariant_of-result g c = rw (c.in_ok-values.ensures.filled, length-replicate) c.self.invariant

pub returns-clause-stored : goal.returns-clause-stored
returns-clause-stored g c = rw (c.in_ok-values.ensures.filled, ← c.self.view_is) refl

pub returns-clause-rows : goal.returns-clause-rows
returns-clause-rows g c =
    rw (c.in_ok-values.ensures.filled, ← c.self.view_is) (number_rows-filled g.T.Number.value c.self.inside.validity c.self.inside.values.items c.args.value)
