use Rattle.std.proofs.Common.{List, ℕ, Result, sym, subst, inr}
use Rattle.std.specs.String.{string_bytes}
use Rattle.polars_tables_rows.specs.declared.fault.LineError.{LineError}
use Rattle.polars_tables_rows.specs.Faults.{Tells}
use Rattle.polars_tables_lines.proofs.Texts.{meaning-text, meaning-no_text}
use Rattle.polars_tables_lines.proofs.running.answer_bytes.Goals as goal

pub returns-in-Ok : goal.returns-in-Ok
returns-in-Ok c =
    let same = meaning-text _ _ c.in-Ok.ensures.cases.0 c.in-Ok.ensures.cases.1 in
    let P : Result (List ℕ) LineError → Type 0 = λ m. Tells string_bytes m c.answer_line.result in
    subst P (sym same) c.answer_line.ensures

pub returns-in-Err : goal.returns-in-Err
returns-in-Err c = inr (meaning-no_text _ c.in-Err.ensures.cases.0)
