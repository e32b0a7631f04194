-- Rows of cells, as they are read.
--
-- Of the records "7" "1" "x" and "8" "2" "y" the columns 2 and 0 are kept as the cells "x" "7" "y"
-- "8", and two lines. Of the rows of a part the numbers are kept too.
use Rattle.std.specs.List.{filter, flat_map}
use Rattle.std.specs.Prelude.{◌≡◌, ℕ, Bool, true, List, [], Option, None, Some, IfSome, length, map}
use Rattle.diff_parts.specs.Parts.{PartNumber}
use Rattle.diff_parts.specs.Rows.{has_row, numbers_in}
use Rattle.diff_tables.specs.Keys.{cells_at}
use Rattle.diff_tables.specs.Strings.{AreStrings}
use Rattle.diff_csv.specs.Given.{AreRowsOf, HasGiven}
use Rattle.diff_csv.specs.declared.options.CsvOptions.{CsvOptions}
use Rattle.diff_csv.specs.declared.row_reader.RowReader.{RowReader}
use Rattle.diff_csv.specs.declared.rows.Rows.{Rows}

-- whether a row is read: it is in the part, or there is no part
abbrev pub is_read : Option PartNumber → List ℕ → List (List ℕ) → Bool
is_read None keys row = true
is_read (Some part) keys row = has_row part keys row

-- the records whose rows are read
abbrev pub records_read : List ℕ → List ℕ → Option PartNumber → List (List (List ℕ))
    → List (List (List ℕ))
records_read columns keys part records = filter
    (λ r. is_read part keys (cells_at columns r)) records

-- these records are kept, or those whose rows are in a part, each as its cells in the columns, with
-- a line. If only the rows of a part are read, their numbers are kept too.
pub record HoldsRows (columns keys : List ℕ) (part : Option PartNumber) (r : Rows)
    (records : List (List (List ℕ))) : Type 0 where
  pub cells : AreStrings r.cells
      (flat_map (cells_at columns) (records_read columns keys part records))
  pub lines : length r.lines.items ≡ length (records_read columns keys part records)
  pub numbers : IfSome (numbers_in part keys (map (cells_at columns) records))
      (λ ns. r.numbers.items ≡ ns)

-- the rows of a text are read to the end, and those that are read are kept
pub record ReadsAll {R : Type 0} (remaining : R → Option (List ℕ)) (columns keys : List ℕ)
    (part : Option PartNumber) (reader : RowReader R) (r : Rows) : Type 0 where
  pub rows : List (List (List ℕ))
  pub held : HoldsRows columns keys part r rows
  pub all : (options : CsvOptions) (text : List ℕ) → HasGiven remaining options text reader []
      → AreRowsOf options text rows
