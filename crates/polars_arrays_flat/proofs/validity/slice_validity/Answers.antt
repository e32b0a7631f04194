use Rattle.std.proofs.Common.{ap, sym, ◌∙◌, Some}
use Rattle.polars_arrays_flat.specs.StoredRows.{masked, rows_under}
use Rattle.polars_arrays_flat.specs.Validity.{window}
use Rattle.polars_arrays_flat.proofs.RowWindows.{rows-window}
use Rattle.polars_arrays_flat.proofs.validity.slice_validity.Goals as goal

pub returns-in-Some-clause-rows : goal.returns-in-Some-clause-rows
returns-in-Some-clause-rows c =
    λ slots. ap (λ bits. masked bits (window c.args.at c.args.n slots)) c.slice.ensures ∙ rows-window c.args.at c.args.n (Some c.in-Some.bits) slots ∙ ap (λ v. window c.args.at c.args.n (rows_under v slots)) (sym c.in-Some.is)
