-- The records of a CSV text, and the rows and names that a table takes from them.
--
-- The text "id,n", "7,1", "8,2" of three lines has the records "id" "n", and "7" "1", and "8" "2".
-- With a header its columns are named id and n, and its rows are the last two records; with none
-- its columns are named 1 and 2, and all three records are rows.
use Rattle.std.specs.Fmt.{decimal}
use Rattle.std.specs.List.{range_with_len}
use Rattle.std.specs.Prelude.{◌≡◌, ◌≢◌, if◌then◌else◌, ℕ, Bool, true, false, List, [], ◌∷◌, ◌++◌}
use Rattle.std.specs.Prelude.{All, length, map, ⊤}
use Rattle.csv.specs.Reading.{AreRecords, Reached, strip_bom}
use Rattle.csv.specs.declared.parser.State.{State}
use Rattle.csv.specs.declared.parser.State.TheVariants as st
use Rattle.diff_csv.specs.Options.{config_of, is_delimiter}
use Rattle.diff_csv.specs.Quotes.{ends_open}
use Rattle.diff_csv.specs.declared.error.CsvError.{CsvError}
use Rattle.diff_csv.specs.declared.error.CsvError.TheVariants as error
use Rattle.diff_csv.specs.declared.options.CsvOptions.{CsvOptions}

-- these are all the records of the text, its header among them; a byte order mark before them is
-- left out
abbrev pub AreRecordsOf : CsvOptions → List ℕ → List (List (List ℕ)) → Type 0
AreRecordsOf options text records =
    AreRecords (config_of options) st.StartRecord (strip_bom text) records

-- these are the first records of the text
abbrev pub Begin : CsvOptions → List ℕ → List (List (List ℕ)) → Type 0
Begin options text records = (s : State) × (rest : List ℕ)
    × Reached (config_of options) st.StartRecord (strip_bom text) records s rest

-- each record has the same number of fields as the first
abbrev pub HaveOneLength : List (List (List ℕ)) → Type 0
HaveOneLength [] = ⊤
HaveOneLength (first ∷ more) = All (λ (r : List (List ℕ)). length r ≡ length first) more

-- the records that are rows: all, or all except the header
abbrev pub data_rows : Bool → List (List (List ℕ)) → List (List (List ℕ))
data_rows has_header [] = []
data_rows has_header (first ∷ more) = if has_header then more else first ∷ more

-- the names of the columns: the header's fields, or numbers from 1 on
abbrev pub names_of : Bool → List (List (List ℕ)) → List (List ℕ)
names_of has_header [] = []
names_of has_header (first ∷ more) =
    if has_header then first else map decimal (range_with_len 1 (length first))

-- the text has a record whose number of fields differs from that of all records before it
pub record HasOtherLength (options : CsvOptions) (text : List ℕ) (expected found : ℕ) : Type 0 where
  pub first : List (List ℕ)
  pub more : List (List (List ℕ))
  pub other : List (List ℕ)
  pub begin : Begin options text (first ∷ (more ++ other ∷ []))
  pub one_length : All (λ (r : List (List ℕ)). length r ≡ length first) more
  pub expected_is : expected ≡ length first
  pub found_is : found ≡ length other
  pub differ : expected ≢ found

-- why a text is not read: an allocation failed, or a read; no text is read with that byte between
-- fields; a record has another length than the first; or the text ends within quotes
abbrev pub IsReadFault : CsvOptions → List ℕ → CsvError → Type 0
IsReadFault options text error.Memory = ⊤
IsReadFault options text (error.Read cause) = ⊤
IsReadFault options text error.Delimiter = is_delimiter options.delimiter ≡ false
IsReadFault options text (error.Length line expected found) =
    HasOtherLength options text expected found
IsReadFault options text (error.OpenQuote line) = ends_open options text ≡ true
