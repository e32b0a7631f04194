use Rattle.std.proofs.Common.{map, ◌≡◌, ℕ, List, Result, refl, sym, subst}
use Rattle.std.specs.String.{string_bytes}
use Rattle.polars_arrays_flat.specs.ArrayRows.{truth_rows}
use Rattle.polars_tables_lines.specs.Line.{rows_meaning}
use Rattle.polars_tables_operations.specs.Answers.{truths_answer}
use Rattle.polars_tables_rows.specs.declared.fault.LineError.{LineError}
use Rattle.polars_tables_rows.specs.declared.row_type.RowType.TheVariants.{Boolean}
use Rattle.polars_tables_rows.specs.Faults.{Tells}
use Rattle.polars_tables_rows.specs.Word.{words_of}
use Rattle.polars_tables_lines.proofs.line.answer_booleans.Goals as goal

pub returns-in_ok-lists-in-DistinctTruths : goal.returns-in_ok-lists-in-DistinctTruths
returns-in_ok-lists-in-DistinctTruths c =
    let same : rows_meaning c.args.operation Boolean (words_of c.args.text.now) ≡ truths_answer c.in-DistinctTruths.asked (map truth_rows c.deref-in-DistinctTruths.result.now)
    = rw (c.in-DistinctTruths.is, c.in_ok-lists-in-DistinctTruths.ensures.lists, c.deref-in-DistinctTruths.ensures.value) refl in
    let P : Result (List ℕ) LineError → Type 0 = λ m. Tells string_bytes m c.answer_truths.result in
    subst P (sym same) c.answer_truths.ensures
