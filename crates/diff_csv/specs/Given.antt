-- A CSV text whose rows are given one by one.
--
-- With a header the text "id,n", "7,1", "8,2" gives the row "7" "1", then "8" "2", and then no row.
-- With none it gives "id" "n" first.
use Rattle.std.specs.Prelude.{◌≡◌, ℕ, Bool, false, List, [], ◌∷◌, ◌++◌, Option, Some, None, length}
use Rattle.csv.specs.Records.{fields_of}
use Rattle.diff_csv.specs.Quotes.{ends_open}
use Rattle.diff_csv.specs.Reading.{IsReading}
use Rattle.diff_csv.specs.Records.{AreRecordsOf, HaveOneLength, data_rows}
use Rattle.diff_csv.specs.declared.options.CsvOptions.{CsvOptions}
use Rattle.diff_csv.specs.declared.row_reader.Ahead.{Ahead}
use Rattle.diff_csv.specs.declared.row_reader.Ahead.TheVariants.{First, Later, End}
use Rattle.diff_csv.specs.declared.row_reader.RowReader.{RowReader}

-- these are all rows of the text: its records, or all records except the header. All records have
-- one length, and no quote is open at the end.
pub record AreRowsOf (options : CsvOptions) (text : List ℕ) (rows : List (List (List ℕ))) :
    Type 0 where
  pub records : List (List (List ℕ))
  pub all : AreRecordsOf options text records
  pub one_length : HaveOneLength records
  pub closed : ends_open options text ≡ false
  pub rows_are : rows ≡ data_rows options.has_header records

-- no row is given, and the first record is read, which is a row
pub record IsAtFirst {R : Type 0} (remaining : R → Option (List ℕ)) (options : CsvOptions)
    (text : List ℕ) (reader : RowReader R) (rows : List (List (List ℕ))) : Type 0 where
  pub none : rows ≡ []
  pub no_header : options.has_header ≡ false
  pub width : reader.width ≡ length (fields_of reader.first.value)
  pub reading : IsReading remaining options text reader.records (fields_of reader.first.value ∷ [])

-- the rows are those of the records that are read
pub record IsBehind {R : Type 0} (remaining : R → Option (List ℕ)) (options : CsvOptions)
    (text : List ℕ) (reader : RowReader R) (rows : List (List (List ℕ))) : Type 0 where
  pub first : List (List ℕ)
  pub more : List (List (List ℕ))
  pub rows_are : rows ≡ data_rows options.has_header (first ∷ more)
  pub one_length : HaveOneLength (first ∷ more)
  pub width : reader.width ≡ length first
  pub reading : IsReading remaining options text reader.records (first ∷ more)

-- these rows of the text are given, by the kind of the record that is given next
abbrev pub IsAt : {R : Type 0} → (R → Option (List ℕ)) → CsvOptions → List ℕ → RowReader R
    → List (List (List ℕ)) → Ahead → Type 0
IsAt remaining options text reader rows First = IsAtFirst remaining options text reader rows
IsAt remaining options text reader rows Later = IsBehind remaining options text reader rows
IsAt remaining options text reader rows End = AreRowsOf options text rows

-- these rows are the first ones of the text, and are given
abbrev pub HasGiven : {R : Type 0} → (R → Option (List ℕ)) → CsvOptions → List ℕ → RowReader R
    → List (List (List ℕ)) → Type 0
HasGiven remaining options text reader rows = IsAt remaining options text reader rows reader.ahead

-- a read gives one row more, or these are all rows
abbrev pub GivesOne : {R : Type 0} → (R → Option (List ℕ)) → CsvOptions → List ℕ → RowReader R
    → List (List (List ℕ)) → List (List ℕ) → Option ℕ → Type 0
GivesOne remaining options text reader rows row (Some line) =
    HasGiven remaining options text reader (rows ++ row ∷ [])
GivesOne remaining options text reader rows row None = AreRowsOf options text rows
