use Rattle.std.proofs.Common.{◌∙◌, ℕ, List, [], ◌∷◌, map, sym, ap, inl, inr}
use Rattle.std.specs.Prelude.{Ok}
use Rattle.std.proofs.lemmas.Result.{err_from_is_err_and}
use Rattle.polars_arrays_flat.specs.ArrayRows.{number_rows}
use Rattle.polars_arrays_flat.specs.Row.{Truth}
use Rattle.polars_compute_slots.specs.State.{all_seen}
use Rattle.polars_tables_operations.specs.Answers.{told}
use Rattle.polars_tables_operations.proofs.RangeStates.{range-err, range-ok}
use Rattle.polars_tables_operations.proofs.numeric.answer_all.Goals as goal

pub returns-in_err-state : goal.returns-in_err-state
returns-in_err-state g c =
    let p = err_from_is_err_and c.from_residual.result c.from_residual.ensures.1 in
    rw (p.1, p.2) (elim c.in_err-state.ensures [
      | inl memory ↦ inl memory
      | inr is ↦ inr (range-err (map (number_rows g.T.Number.value) c.args.lists.items) (λ s. told (Truth (all_seen s) ∷ [])) _ is)
    ])

pub returns : goal.returns
returns g c =
    range-ok (map (number_rows g.T.Number.value) c.args.lists.items) (λ s. told (Truth (all_seen s) ∷ [])) _ c.in_ok-state.ensures
    ∙ ap (λ (text : List ℕ). Ok text) (sym c.in_ok-write_all_seen.ensures)
