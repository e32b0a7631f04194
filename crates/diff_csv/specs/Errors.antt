-- Why a CSV text is not read.
use Rattle.std.specs.Prelude.{◌≡◌, ◌≢◌, ℕ, Bool, true, false, ⊤}
use Rattle.csv.specs.declared.error.ErrorKind.{ErrorKind}
use Rattle.csv.specs.declared.error.ErrorKind.TheVariants as kind
use Rattle.diff_csv.specs.declared.error.CsvError.{CsvError}
use Rattle.diff_csv.specs.declared.error.CsvError.TheVariants as error

-- an allocation failed
abbrev pub IsOutOfMemory : CsvError → Type 0
IsOutOfMemory e = e ≡ error.Memory

-- an error of the reader of records: a read failed, or an allocation
abbrev pub fault_of_kind : ErrorKind → CsvError
fault_of_kind (kind.Io cause) = error.Read cause
fault_of_kind (kind.UnequalLengths pos expected found) = error.Memory
fault_of_kind (kind.Utf8 pos err) = error.Memory
fault_of_kind kind.OutOfMemory = error.Memory
fault_of_kind (kind.Serialize text) = error.Memory
fault_of_kind (kind.Deserialize pos err) = error.Memory

-- a read failed, or an allocation
abbrev pub IsStop : CsvError → Type 0
IsStop error.Memory = ⊤
IsStop (error.Read cause) = ⊤
IsStop error.Delimiter = ⊥
IsStop (error.Length line expected found) = ⊥
IsStop (error.OpenQuote line) = ⊥

-- why there is no next record: a read failed, or an allocation, or the text ends within quotes
abbrev pub IsNoRecord : CsvError → Type 0
IsNoRecord error.Memory = ⊤
IsNoRecord (error.Read cause) = ⊤
IsNoRecord error.Delimiter = ⊥
IsNoRecord (error.Length line expected found) = ⊥
IsNoRecord (error.OpenQuote line) = ⊤

-- the error is not one of lengths
abbrev pub IsNotLength : CsvError → Type 0
IsNotLength error.Memory = ⊤
IsNotLength (error.Read cause) = ⊤
IsNotLength error.Delimiter = ⊤
IsNotLength (error.Length line expected found) = ⊥
IsNotLength (error.OpenQuote line) = ⊤

-- a record that begins at this line has another number of fields than the first one
abbrev pub IsOtherLength : (line expected found : ℕ) → CsvError → Type 0
IsOtherLength line expected found error.Memory = ⊥
IsOtherLength line expected found (error.Read cause) = ⊥
IsOtherLength line expected found error.Delimiter = ⊥
IsOtherLength line expected found (error.Length l e f) = (l ≡ line) × (e ≡ expected) × (f ≡ found)
    × (expected ≢ found)
IsOtherLength line expected found (error.OpenQuote l) = ⊥

-- the error is not that of the byte between fields
abbrev pub IsRowFault : CsvError → Type 0
IsRowFault error.Memory = ⊤
IsRowFault (error.Read cause) = ⊤
IsRowFault error.Delimiter = ⊥
IsRowFault (error.Length line expected found) = ⊤
IsRowFault (error.OpenQuote line) = ⊤

-- the error is that of the byte between fields exactly where this may not stand there
abbrev pub TellsDelimiter : Bool → CsvError → Type 0
TellsDelimiter able error.Memory = able ≡ true
TellsDelimiter able (error.Read cause) = able ≡ true
TellsDelimiter able error.Delimiter = able ≡ false
TellsDelimiter able (error.Length line expected found) = able ≡ true
TellsDelimiter able (error.OpenQuote line) = able ≡ true
