use Rattle.std.proofs.Common.{map, inl, inr}
use Rattle.std.proofs.lemmas.Result.{err_from_is_err_and}
use Rattle.polars_arrays_flat.specs.ArrayRows.{number_rows}
use Rattle.polars_arrays_flat.specs.Row.{Int}
use Rattle.polars_tables_operations.specs.Distinct.{asked_of}
use Rattle.polars_tables_operations.specs.Answers.{told}
use Rattle.polars_tables_operations.proofs.RangeStates.{range-err, range-ok}
use Rattle.polars_tables_operations.proofs.numeric.answer_range.Goals as goal

pub returns-in_err-state_of_lists : goal.returns-in_err-state_of_lists
returns-in_err-state_of_lists g c =
    let p = err_from_is_err_and c.from_residual.result c.from_residual.ensures.1 in
    rw (p.1, p.2) (elim c.in_err-state_of_lists.ensures [
      | inl memory ↦ inl memory
      | inr is ↦ inr (range-err (map (number_rows g.T.Number.value) c.args.lists.items) (λ s. told (asked_of Int c.args.asked s)) _ is)
    ])

pub returns : goal.returns
returns g c = rw (range-ok (map (number_rows g.T.Number.value) c.args.lists.items) (λ s. told (asked_of Int c.args.asked s)) _ c.in_ok-state_of_lists.ensures) c.answer_distinct.ensures
