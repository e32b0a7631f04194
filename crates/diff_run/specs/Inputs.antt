-- The rows of two inputs.
use Rattle.std.specs.Prelude.{◌≡◌, ℕ, Bool, List, Option, length, map, option_map}
use Rattle.diff_columns.specs.declared.layout.Layout.{Layout}
use Rattle.diff_csv.specs.Records.{data_rows}
use Rattle.diff_csv.specs.Tables.{IsTableOf}
use Rattle.diff_parts.specs.Parts.{PartNumber}
use Rattle.diff_parts.specs.Rows.{numbers_in, rows_in}
use Rattle.diff_report.specs.declared.sides.Side.{Side}
use Rattle.diff_run.specs.declared.inputs.Both.{Both}
use Rattle.diff_run.specs.declared.options.Options.{Options}
use Rattle.diff_tables.specs.Keys.{cells_at}

-- the rows of records, each as its cells in some columns
abbrev pub rows_of : Bool → List (List (List ℕ)) → List ℕ → List (List (List ℕ))
rows_of has_header records columns = map (cells_at columns) (data_rows has_header records)

-- a side has the name of an input, and the rows of its records or those of a part, with the numbers
-- that these have
pub record IsSideWith (has_header : Bool) (records : List (List (List ℕ))) (columns keys : List ℕ)
    (part : Option PartNumber) (name : List ℕ) (side : Side) : Type 0 where
  pub named : side.name.items ≡ name
  pub width : side.table.width ≡ length columns
  pub rows : side.table.rows ≡ rows_in part keys (rows_of has_header records columns)
  pub lines : length side.lines.items ≡ length side.table.rows
  pub numbers : option_map (λ v. v.items) side.numbers
      ≡ numbers_in part keys (rows_of has_header records columns)

-- both have the rows of their texts, or those of a part, in the columns that are compared
pub record AreBothOf (options : Options) (left_text right_text : List ℕ) (layout : Layout)
    (both : Both) : Type 0 where
  pub left : IsTableOf options.csv left_text layout.left.items layout.keys.items options.part
      both.left
  pub right : IsTableOf options.csv right_text layout.right.items layout.keys.items options.part
      both.right
