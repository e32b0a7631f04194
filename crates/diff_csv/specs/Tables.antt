-- The table of a CSV text.
--
-- With a header the text "id,n", "7,1", "8,2" has in the columns 1 and 0 the rows "1" "7" and "2"
-- "8". Of these a part may have the second one alone, which has the number 2.
use Rattle.std.specs.Prelude.{◌≡◌, ℕ, false, List, Option, IfSome, length, map, option_map}
use Rattle.diff_parts.specs.Parts.{PartNumber}
use Rattle.diff_parts.specs.Rows.{numbers_in, rows_in}
use Rattle.diff_tables.specs.Keys.{cells_at}
use Rattle.diff_csv.specs.Quotes.{ends_open}
use Rattle.diff_csv.specs.Records.{AreRecordsOf, HaveOneLength, data_rows}
use Rattle.diff_csv.specs.declared.options.CsvOptions.{CsvOptions}
use Rattle.diff_csv.specs.declared.source.CsvTable.{CsvTable}

-- the rows of the table are these records' cells in the columns, or those of them that are in a
-- part, and each row has a line; the rows of a part have the numbers that they have among all
pub record IsTableWith (columns keys : List ℕ) (part : Option PartNumber)
    (records : List (List (List ℕ))) (t : CsvTable) : Type 0 where
  pub width : t.table.width ≡ length columns
  pub rows : t.table.rows ≡ rows_in part keys (map (cells_at columns) records)
  pub lines : length t.lines.items ≡ length t.table.rows
  pub numbers : option_map (λ v. v.items) t.numbers
      ≡ numbers_in part keys (map (cells_at columns) records)

-- the table has these columns, and each row has a line, and a number where there are numbers
pub record HasShape (columns : List ℕ) (t : CsvTable) : Type 0 where
  pub width : t.table.width ≡ length columns
  pub lines : length t.lines.items ≡ length t.table.rows
  pub numbers : IfSome t.numbers (λ v. length v.items ≡ length t.table.rows)

-- the table has the rows of the text, or those of a part, each as its cells in the columns; all
-- records of the text have one length, and no quote is open at its end
pub record IsTableOf (options : CsvOptions) (text : List ℕ) (columns keys : List ℕ)
    (part : Option PartNumber) (t : CsvTable) : Type 0 where
  pub records : List (List (List ℕ))
  pub all : AreRecordsOf options text records
  pub one_length : HaveOneLength records
  pub closed : ends_open options text ≡ false
  pub table : IsTableWith columns keys part (data_rows options.has_header records) t
