use Rattle.std.proofs.Common.{subst, sym, MatchResult}
use Rattle.polars_arrays_bits.specs.Errors.{IsMemory}
use Rattle.polars_arrays_bytes.specs.OffsetStrings.{offset_strings}
use Rattle.schema_columns.specs.Columns.{TellsValues}
use Rattle.schema_values.specs.Told.{told_of}
use Rattle.schema_columns.proofs.column.values_of.Goals as goal

pub returns-in-Whole : goal.returns-in-Whole
returns-in-Whole c =
    subst (λ k. MatchResult c.whole_values.result (λ values. TellsValues k (offset_strings (λ x. x) c.args.cells.now) (told_of values)) IsMemory) (sym c.in-Whole.is) c.whole_values.ensures

pub returns-in-Number : goal.returns-in-Number
returns-in-Number c =
    subst (λ k. MatchResult c.number_values.result (λ values. TellsValues k (offset_strings (λ x. x) c.args.cells.now) (told_of values)) IsMemory) (sym c.in-Number.is) c.number_values.ensures

pub returns-in-Empty : goal.returns-in-Empty
returns-in-Empty c =
    subst (λ k. MatchResult c.string_values.result (λ values. TellsValues k (offset_strings (λ x. x) c.args.cells.now) (told_of values)) IsMemory) (sym c.in-Empty.is) c.string_values.ensures

pub returns-in-Truth : goal.returns-in-Truth
returns-in-Truth c =
    subst (λ k. MatchResult c.string_values-in-Truth.result (λ values. TellsValues k (offset_strings (λ x. x) c.args.cells.now) (told_of values)) IsMemory) (sym c.in-Truth.is) c.string_values-in-Truth.ensures

pub returns-in-Text : goal.returns-in-Text
returns-in-Text c =
    subst (λ k. MatchResult c.string_values-in-Text.result (λ values. TellsValues k (offset_strings (λ x. x) c.args.cells.now) (told_of values)) IsMemory) (sym c.in-Text.is) c.string_values-in-Text.ensures
