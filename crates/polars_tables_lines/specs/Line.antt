-- The meaning of a line: the text of its result, or its first fault.
use Rattle.std.specs.Prelude.{ℕ, cond, List, [], ◌∷◌, Err}
use Rattle.polars_tables_operations.specs.Answers.{Answer, answer_of}
use Rattle.polars_tables_operations.specs.Operations.{operation_of, takes}
use Rattle.polars_tables_operations.specs.declared.operation.Operation.{Operation}
use Rattle.polars_tables_rows.specs.declared.fault.LineError.TheVariants.{Op, TypeName}
use Rattle.polars_tables_rows.specs.declared.fault.LineError.TheVariants.{Row as RowError}
use Rattle.polars_tables_rows.specs.declared.row_type.RowType.{RowType}
use Rattle.polars_tables_rows.specs.Faults.{or_fault}
use Rattle.polars_tables_rows.specs.Types.{row_type_of}
use Rattle.polars_tables_rows.specs.Word.{words_of, lists_of}

-- the result of an operation for words that are rows of a type and bars
abbrev pub rows_meaning : Operation → RowType → List (List ℕ) → Answer
rows_meaning operation type words =
    cond (takes operation type) (or_fault (lists_of type words) RowError (answer_of operation type))
    (Err TypeName)

-- the result of an operation for the words after its name: a type, and then rows and bars
abbrev pub typed_meaning : Operation → List (List ℕ) → Answer
typed_meaning operation [] = Err TypeName
typed_meaning operation (name ∷ words) = or_fault (row_type_of name) TypeName
    (λ type. rows_meaning operation type words)

-- the result for the words of a line
abbrev pub words_meaning : List (List ℕ) → Answer
words_meaning [] = Err Op
words_meaning (name ∷ words) = or_fault (operation_of name) Op
    (λ operation. typed_meaning operation words)

-- the meaning of a line: the text of its result, or its first fault
abbrev pub line_meaning : List ℕ → Answer
line_meaning line = words_meaning (words_of line)
