-- A CSV text that is read record by record.
--
-- After the first record of the text "id,n", "7,1" is given, the second one is read too. Once this
-- is given, the mark after the text is read: a record of one empty field.
use Rattle.std.specs.Borrow.{Bor}
use Rattle.std.specs.Io.Chain.{chain_remaining}
use Rattle.std.specs.Prelude.{◌≡◌, ℕ, Bool, true, false, List, [], ◌∷◌, ◌++◌, Option, Some, None}
use Rattle.std.specs.declared.io.traits.Chain.{Chain}
use Rattle.csv.specs.Reading.{Reached, Ready, source_of, strip_bom}
use Rattle.csv.specs.Records.{Row, fields_of}
use Rattle.csv.specs.declared.parser.State.TheVariants as st
use Rattle.csv.specs.declared.reader.Reader.{Reader}
use Rattle.csv.specs.declared.reader.Trim.TheVariants as trim
use Rattle.diff_csv.specs.Options.{config_of, is_delimiter}
use Rattle.diff_csv.specs.Quotes.{ends_open, mark}
use Rattle.diff_csv.specs.Records.{AreRecordsOf}
use Rattle.diff_csv.specs.declared.ends.Ends.{Ends}
use Rattle.diff_csv.specs.declared.options.CsvOptions.{CsvOptions}
use Rattle.diff_csv.specs.declared.reading.Records.{Records}
use Rattle.diff_csv.specs.declared.source.Source.{Source}

-- a reader has read these records of the text, and goes on after them
pub record HasRead {R : Type 0} (remaining : R → Option (List ℕ)) (options : CsvOptions)
    (text : List ℕ) (reader : Reader R) (rows : List (List (List ℕ))) : Type 0 where
  pub trim : reader.trim ≡ trim.None
  pub ready : Ready reader
  pub config : reader.config ≡ config_of options
  pub unread : List ℕ
  pub source : source_of remaining reader ≡ Some unread
  pub reached : Reached (config_of options) st.StartRecord (strip_bom text) rows reader.state unread

-- a read gives one record more, or there is none
abbrev pub HasReadOne : {R : Type 0} → (R → Option (List ℕ)) → CsvOptions → List ℕ → Reader R
    → List (List (List ℕ)) → List (List ℕ) → Bool → Type 0
HasReadOne remaining options text reader rows fields true =
    HasRead remaining options text reader (rows ++ fields ∷ [])
HasReadOne remaining options text reader rows fields false = AreRecordsOf options text rows

-- the bytes that are left to a reader that keeps those of its last read
abbrev pub ends_remaining : {R : Type 0} → (R → Option (List ℕ)) → Ends R → Option (List ℕ)
ends_remaining remaining reader = remaining reader.inner

-- the bytes that are left of a text and of the mark after it
abbrev pub marked_remaining : {R : Type 0} → (R → Option (List ℕ)) → Ends (Chain R (Bor (List ℕ)))
    → Option (List ℕ)
marked_remaining remaining =
    ends_remaining (chain_remaining remaining (λ (s : Bor (List ℕ)). Some s.now))

-- these records of the text are given, and the one after them is read: the mark's, where the text
-- has no more
pub record IsReading {R : Type 0} (remaining : R → Option (List ℕ)) (options : CsvOptions)
    (text : List ℕ) (records : Records R) (rows : List (List (List ℕ))) : Type 0 where
  pub delimiter : is_delimiter options.delimiter ≡ true
  pub read : HasRead (marked_remaining remaining) options (text ++ mark) records.reader
      (rows ++ fields_of records.ahead.value ∷ [])

-- a read gives one record more, or there is none and no quote is open
abbrev pub ReadsOne : {R : Type 0} → (R → Option (List ℕ)) → CsvOptions → List ℕ → Records R
    → List (List (List ℕ)) → List (List ℕ) → Option ℕ → Type 0
ReadsOne remaining options text records rows fields (Some line) =
    IsReading remaining options text records (rows ++ fields ∷ [])
ReadsOne remaining options text records rows fields None = AreRecordsOf options text rows
    × (ends_open options text ≡ false)

-- the first record is given, or the text has none
abbrev pub IsBegun : {R : Type 0} → (R → Option (List ℕ)) → CsvOptions → List ℕ → Records R
    → Option Row → Type 0
IsBegun remaining options text records None = AreRecordsOf options text []
    × (ends_open options text ≡ false)
IsBegun remaining options text records (Some first) =
    IsReading remaining options text records (fields_of first ∷ [])

-- a source that was opened over the text
pub record IsOpen {R : Type 0} (remaining : R → Option (List ℕ)) (options : CsvOptions)
    (text : List ℕ) (source : Source R) : Type 0 where
  pub header : source.has_header ≡ options.has_header
  pub begun : IsBegun remaining options text source.records source.first
