-- Schemas of columns.
--
-- Of the cells 7, 12, an empty one and 7, one is missing. The others are whole numbers: two of them
-- are different, the least is 7, and the greatest is 12.
use Rattle.std.specs.List.{count_by}
use Rattle.std.specs.Ordering.{int_eq}
use Rattle.std.specs.Prelude.{◌≡◌, ℕ, List, length, map, Option, Some, option_map}
use Rattle.std.specs.Str.{bytes_eq}
use Rattle.polars_arrays_flat.specs.Row.{Int}
use Rattle.polars_arrays_flat.specs.StoredRows.{byte_slots}
use Rattle.schema_columns.specs.Ends.{TellsEnds}
use Rattle.schema_columns.specs.Kinds.{IsNarrowest, whole_of}
use Rattle.schema_columns.specs.Present.{is_missing, is_null, present}
use Rattle.schema_columns.specs.declared.column.ColumnSchema.{ColumnSchema}
use Rattle.schema_columns.specs.declared.kind.Kind.{Kind}
use Rattle.schema_columns.specs.declared.kind.Kind.TheVariants.{Empty, Truth, Whole, Number, Text}
use Rattle.schema_values.specs.Distinct.{distinct_total}
use Rattle.schema_values.specs.Numbers.{TellsNumbers}
use Rattle.schema_values.specs.Told.{Told}

-- t has the number of different byte strings, and the least and the greatest of them
pub record TellsStrings (cells : List (List ℕ)) (t : Told) : Type 0 where
  pub distinct : t.distinct ≡ Some (distinct_total bytes_eq cells)
  pub ends : TellsEnds (byte_slots cells) t.least t.greatest

-- t has the number of different whole numbers, and the least and the greatest of them
pub record TellsWholes (cells : List (List ℕ)) (t : Told) : Type 0 where
  pub distinct : t.distinct ≡ Some (distinct_total int_eq (map whole_of cells))
  pub ends : TellsEnds (map Int (map whole_of cells)) t.least t.greatest

-- t has the number of different cells of a kind, and the least and the greatest of them
abbrev pub TellsValues : Kind → List (List ℕ) → Told → Type 0
TellsValues Empty = TellsStrings
TellsValues Truth = TellsStrings
TellsValues Whole = TellsWholes
TellsValues Number = TellsNumbers
TellsValues Text = TellsStrings

-- the number of different values in a schema, and the least and the greatest of them
abbrev pub told_in : ColumnSchema → Told
told_in s = record {
  distinct = s.distinct;
  least = option_map (λ t. t.items) s.least;
  greatest = option_map (λ t. t.items) s.greatest;
}

-- the schema of a column that has these cells
pub record IsSchemaOf (named : List ℕ) (null : Option (List ℕ)) (cells : List (List ℕ))
    (s : ColumnSchema) : Type 0 where
  pub name : s.name.items ≡ named
  pub rows : s.rows ≡ length cells
  pub nulls : s.nulls ≡ count_by (is_null null) cells
  pub missing : s.missing ≡ count_by (is_missing null) cells
  pub kind : IsNarrowest (present null cells) s.kind
  pub values : TellsValues s.kind (present null cells) (told_in s)
