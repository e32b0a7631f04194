-- More lists than an operation takes are refused for their number, whatever rows they have.
use Rattle.std.proofs.Common.{◌≡◌, ◌<◌, ℕ, true, List, [], ◌∷◌, Option, Some, None, Result, Err, length, refl, inl, inr, arith}
use Rattle.std.specs.Prelude.{MatchOption}
use Rattle.polars_arrays_flat.specs.Row.{Row}
use Rattle.polars_tables_lines.specs.Line.{rows_meaning}
use Rattle.polars_tables_operations.specs.Answers.{answer_of}
use Rattle.polars_tables_operations.specs.Operations.{lists_taken, takes}
use Rattle.polars_tables_operations.specs.declared.operation.GeneralOperation.TheVariants.{Compare, CountBits, Reduce, Extremes}
use Rattle.polars_tables_operations.specs.declared.operation.NumericOperation.TheVariants.{Change, Calculate, CalculateFromScalar, Sum, DistinctInRange, HasAllOfRange}
use Rattle.polars_tables_operations.specs.declared.operation.Operation.{Operation}
use Rattle.polars_tables_operations.specs.declared.operation.Operation.TheVariants.{General, Numeric, DistinctTruths}
use Rattle.polars_tables_rows.specs.declared.fault.LineError.{LineError}
use Rattle.polars_tables_rows.specs.declared.fault.LineError.TheVariants.{Length, Row as RowError}
use Rattle.polars_tables_rows.specs.declared.row_type.RowType.{RowType}
use Rattle.polars_tables_rows.specs.Faults.{UnlessMemory, of_one, of_two, or_fault}
use Rattle.polars_tables_rows.specs.Word.{lists_of}

more_than_one : {A B : Type 0} (lists : List A) (answer : A → Result B LineError) → 1 < length lists → of_one lists answer ≡ Err Length
more_than_one [] answer h = refl
more_than_one (x ∷ []) answer h = absurd (omega arith)
more_than_one (x ∷ y ∷ more) answer h = refl

more_than_two : {A B : Type 0} (lists : List A) (answer : A → A → Result B LineError) → 2 < length lists → of_two lists answer ≡ Err Length
more_than_two [] answer h = refl
more_than_two (x ∷ []) answer h = refl
more_than_two (x ∷ y ∷ []) answer h = absurd (omega arith)
more_than_two (x ∷ y ∷ z ∷ more) answer h = refl

too_many : (operation : Operation) (type : RowType) (lists : List (List Row)) → lists_taken operation < length lists → answer_of operation type lists ≡ Err Length
too_many (General (Compare comparison operand)) type lists h = more_than_two lists _ h
too_many (General (CountBits count)) type lists h = more_than_one lists _ h
too_many (General (Reduce reduction)) type lists h = more_than_one lists _ h
too_many (General Extremes) type lists h = more_than_one lists _ h
too_many (Numeric (Change change)) type lists h = more_than_one lists _ h
too_many (Numeric (Calculate calculation operand)) type lists h = more_than_two lists _ h
too_many (Numeric (CalculateFromScalar calculation)) type lists h = more_than_two lists _ h
too_many (Numeric Sum) type lists h = more_than_one lists _ h
too_many (Numeric (DistinctInRange asked)) type lists h = more_than_two lists _ h
too_many (Numeric HasAllOfRange) type lists h = more_than_two lists _ h
too_many (DistinctTruths asked) type lists h = more_than_one lists _ h

-- what was told of lists that could not be read is the meaning of the line
pub refused : (operation : Operation) (type : RowType) (words : List (List ℕ)) (e : LineError) → takes operation type ≡ true
    → UnlessMemory e (MatchOption (lists_of type words) (e ≡ RowError) (λ lists. (e ≡ Length) × (lists_taken operation < length lists)))
    → UnlessMemory e (rows_meaning operation type words ≡ Err e)
refused operation type words e t (inl memory) = inl memory
refused operation type words e t (inr fault) = inr (rw t (of_lists (lists_of type words) fault)) where
  of_lists : (lists : Option (List (List Row))) → MatchOption lists (e ≡ RowError) (λ l. (e ≡ Length) × (lists_taken operation < length l)) → or_fault lists RowError (answer_of operation type) ≡ Err e
  of_lists None is_row = rw is_row refl
  of_lists (Some l) many = rw many.0 (too_many operation type l many.1)
