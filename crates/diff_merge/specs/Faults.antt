-- Why two texts are not merged.
--
-- With the key "id" the text "id,n", "8,1", "7,2" is not merged with any other, since 7 is less
-- than 8.
use Rattle.std.specs.Prelude.{◌≡◌, ℕ, Bool, true, List, [], ◌∷◌, ◌++◌, ⊤}
use Rattle.diff_columns.specs.declared.error.Side.{Side}
use Rattle.diff_csv.specs.Records.{Begin, IsReadFault, data_rows}
use Rattle.diff_csv.specs.declared.options.CsvOptions.{CsvOptions}
use Rattle.diff_merge.specs.Order.{key_less}
use Rattle.diff_merge.specs.declared.error.MergeError.{MergeError}
use Rattle.diff_merge.specs.declared.error.MergeError.TheVariants as error
use Rattle.diff_tables.specs.Keys.{cells_at, row_key}

-- an allocation failed
abbrev pub IsMemory : MergeError → Type 0
IsMemory e = e ≡ error.Memory

-- the key of a record
abbrev pub key_of : List ℕ → List ℕ → List (List ℕ) → List ℕ
key_of columns keys record_read = row_key keys (cells_at columns record_read)

-- two adjacent rows of a text, whose first records are these
pub record HasAdjacent (options : CsvOptions) (text : List ℕ) (first next : List (List ℕ)) :
    Type 0 where
  pub records : List (List (List ℕ))
  pub rows : List (List (List ℕ))
  pub begin : Begin options text records
  pub rows_are : data_rows options.has_header records ≡ rows ++ first ∷ next ∷ []

-- a row of a text has a lesser key than the row before it
pub record HasFall (options : CsvOptions) (text : List ℕ) (columns keys : List ℕ) : Type 0 where
  pub first : List (List ℕ)
  pub next : List (List ℕ)
  pub adjacent : HasAdjacent options text first next
  pub falls : key_less (key_of columns keys next) (key_of columns keys first) ≡ true

-- two adjacent rows of a text have one key
pub record HasTwice (options : CsvOptions) (text : List ℕ) (columns keys : List ℕ) : Type 0 where
  pub first : List (List ℕ)
  pub next : List (List ℕ)
  pub adjacent : HasAdjacent options text first next
  pub one_key : key_of columns keys first ≡ key_of columns keys next

-- a text can't be read, or an allocation failed
abbrev pub IsTextFault : Side → CsvOptions → List ℕ → MergeError → Type 0
IsTextFault side options text error.Memory = ⊤
IsTextFault side options text (error.Csv s cause) = (s ≡ side) × IsReadFault options text cause
IsTextFault side options text (error.Falls s line) = ⊥
IsTextFault side options text (error.KeyTwice s first again) = ⊥

-- a key is less than the one before it, or the same where keys have to be unique
abbrev pub IsKeyFault : Side → Bool → List ℕ → List ℕ → MergeError → Type 0
IsKeyFault side unique before key error.Memory = ⊥
IsKeyFault side unique before key (error.Csv s cause) = ⊥
IsKeyFault side unique before key (error.Falls s line) = (s ≡ side) × (key_less key before ≡ true)
IsKeyFault side unique before key (error.KeyTwice s first again) = (s ≡ side) × (unique ≡ true)
    × (before ≡ key)

-- why the rows of a text are not given: it can't be read, or a key falls, or comes twice where keys
-- have to be unique; or an allocation failed
abbrev pub IsCursorFault : Side → CsvOptions → List ℕ → List ℕ → List ℕ → Bool → MergeError → Type 0
IsCursorFault side options text columns keys unique error.Memory = ⊤
IsCursorFault side options text columns keys unique (error.Csv s cause) = (s ≡ side)
    × IsReadFault options text cause
IsCursorFault side options text columns keys unique (error.Falls s line) = (s ≡ side)
    × HasFall options text columns keys
IsCursorFault side options text columns keys unique (error.KeyTwice s first again) = (s ≡ side)
    × (unique ≡ true) × HasTwice options text columns keys
