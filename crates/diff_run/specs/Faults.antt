-- Why two inputs are not compared.
--
-- With the key "id" the texts "id,n", "7,1" and "day,n", "3,8" are not compared, since no column of
-- the right one is named id; nor are "id,n", "7" and any other, since the second record of the left
-- one has one field.
use Rattle.std.specs.Prelude.{◌≡◌, ℕ, true, List, ⊤}
use Rattle.diff_columns.specs.Errors.{IsColumnFault}
use Rattle.diff_columns.specs.Layout.{IsLayout}
use Rattle.diff_columns.specs.Names.{Names, names_of}
use Rattle.diff_columns.specs.declared.error.ColumnError.{ColumnError}
use Rattle.diff_columns.specs.declared.error.Side.{Side}
use Rattle.diff_columns.specs.declared.error.Side.TheVariants.{Left, Right}
use Rattle.diff_columns.specs.declared.layout.Layout.{Layout}
use Rattle.diff_csv.specs.Records.{AreRecordsOf, IsReadFault}
use Rattle.diff_csv.specs.Records as csv
use Rattle.diff_keys.specs.Unique.{IsFirstTwice}
use Rattle.diff_keys.specs.declared.unique.Twice.{Twice}
use Rattle.diff_parts.specs.Rows.{rows_in}
use Rattle.diff_report.specs.Sides.{compared_left, compared_right}
use Rattle.diff_report.specs.declared.sides.Sides.{Sides}
use Rattle.diff_run.specs.Chosen.{IsNoChoice}
use Rattle.diff_run.specs.Comparables.{HasWideNumber, HaveFew, numeric_columns}
use Rattle.diff_run.specs.Inputs.{rows_of}
use Rattle.diff_run.specs.Run.{AreSidesOf}
use Rattle.diff_run.specs.declared.error.ChoiceError.{ChoiceError}
use Rattle.diff_run.specs.declared.error.RunError.{RunError}
use Rattle.diff_run.specs.declared.error.RunError.TheVariants as error
use Rattle.diff_run.specs.declared.options.Options.{Options}
use Rattle.diff_tables.specs.Keys.{cells_at, row_keys}

-- an allocation failed
abbrev pub IsMemory : RunError → Type 0
IsMemory e = e ≡ error.Memory

-- the text on a side
abbrev pub text_on : Side → List ℕ → List ℕ → List ℕ
text_on Left left right = left
text_on Right left right = right

-- the columns of the two texts can't be matched
abbrev pub IsNamesFault : Options → List ℕ → List ℕ → ColumnError → Type 0
IsNamesFault options left_text right_text cause = (left right : List (List (List ℕ)))
    → AreRecordsOf options.csv left_text left → AreRecordsOf options.csv right_text right
    → IsColumnFault (csv.names_of options.csv.has_header left)
    (csv.names_of options.csv.has_header right) (names_of options.choice.keys.now) cause

-- the options choose columns that neither text has, or none of those that the texts have
abbrev pub IsChoiceFault : Options → List ℕ → List ℕ → ChoiceError → Type 0
IsChoiceFault options left_text right_text cause = (left right : List (List (List ℕ)))
    → AreRecordsOf options.csv left_text left → AreRecordsOf options.csv right_text right
    → IsNoChoice options (csv.names_of options.csv.has_header left)
    (csv.names_of options.csv.has_header right) cause

-- each row of the two tables has a number below 2^32
abbrev pub HaveFewRows : Sides → Type 0
HaveFewRows s = HaveFew s.left.table.rows s.right.table.rows

-- the rows that those of one of two sides are compared by
abbrev pub compared_on : Side → Sides → List (List (List ℕ))
compared_on Left s = compared_left s
compared_on Right s = compared_right s

-- two of these rows have one key
abbrev pub HasKeyTwice : List (List (List ℕ)) → List ℕ → Type 0
HasKeyTwice rows keys = (t : Twice) × IsFirstTwice (row_keys keys rows) t

-- two rows of this side have one key, or an allocation failed
abbrev pub IsSideFault : List (List (List ℕ)) → List ℕ → Side → RunError → Type 0
IsSideFault rows keys side error.Memory = ⊤
IsSideFault rows keys side error.TooManyRows = ⊥
IsSideFault rows keys side (error.KeyTwice s first again) = (s ≡ side) × HasKeyTwice rows keys
IsSideFault rows keys side (error.WideExponent s line name) = ⊥
IsSideFault rows keys side (error.Csv s cause) = ⊥
IsSideFault rows keys side (error.Columns cause) = ⊥
IsSideFault rows keys side (error.Choice cause) = ⊥
IsSideFault rows keys side (error.Write cause) = ⊥

-- the rows of the two tables are too many, two of one table have one key where keys have to be
-- unique, or an allocation failed
abbrev pub IsRowsFault : Options → Sides → RunError → Type 0
IsRowsFault options s error.Memory = ⊤
IsRowsFault options s error.TooManyRows = ¬ (HaveFewRows s)
IsRowsFault options s (error.KeyTwice side first again) = (options.unique ≡ true)
    × HasKeyTwice (compared_on side s) s.keys.items
IsRowsFault options s (error.WideExponent side line name) = ⊥
IsRowsFault options s (error.Csv side cause) = ⊥
IsRowsFault options s (error.Columns cause) = ⊥
IsRowsFault options s (error.Choice cause) = ⊥
IsRowsFault options s (error.Write cause) = ⊥

-- two rows of the table of one text have one key, and keys have to be unique
pub record IsKeyFault (options : Options) (left_text right_text : List ℕ) (side : Side) :
    Type 0 where
  pub left_name : List ℕ
  pub right_name : List ℕ
  pub layout : Layout
  pub sides : Sides
  pub sides_are : AreSidesOf options left_text right_text left_name right_name layout sides
  pub twice : HasKeyTwice (compared_on side sides) sides.keys.items
  pub asked : options.unique ≡ true

-- the rows of the text on a side, or those of a part, each as its cells in the columns that are
-- compared
abbrev pub rows_on : Side → Options → Layout → List (List (List ℕ)) → List (List (List ℕ))
    → List (List (List ℕ))
rows_on Left options layout left right =
    rows_in options.part layout.keys.items (rows_of options.csv.has_header left layout.left.items)
rows_on Right options layout left right =
    rows_in options.part layout.keys.items (rows_of options.csv.has_header right layout.right.items)

-- a table of the two texts has more than 2^32 rows
pub record HasTooManyRows (options : Options) (left_text right_text : List ℕ) : Type 0 where
  pub left_records : List (List (List ℕ))
  pub right_records : List (List (List ℕ))
  pub left_all : AreRecordsOf options.csv left_text left_records
  pub right_all : AreRecordsOf options.csv right_text right_records
  pub layout : Layout
  pub laid_out :
      IsLayout (csv.names_of options.csv.has_header left_records)
      (csv.names_of options.csv.has_header right_records) options.choice layout
  pub many : ¬ (HaveFew (rows_on Left options layout left_records right_records)
      (rows_on Right options layout left_records right_records))

-- on this side a number in the column of this name counts, and its exponent is wide
pub record IsWideFault (options : Options) (left_text right_text : List ℕ) (side : Side)
    (name : List ℕ) : Type 0 where
  pub left_records : List (List (List ℕ))
  pub right_records : List (List (List ℕ))
  pub left_all : AreRecordsOf options.csv left_text left_records
  pub right_all : AreRecordsOf options.csv right_text right_records
  pub layout : Layout
  pub laid_out :
      IsLayout (csv.names_of options.csv.has_header left_records)
      (csv.names_of options.csv.has_header right_records) options.choice layout
  pub names : Names
  pub names_are : names
      ≡ cells_at layout.left.items (csv.names_of options.csv.has_header left_records)
  pub wide : HasWideNumber (numeric_columns options.numbers names) names
      (rows_on side options layout left_records right_records) name

-- why two texts are not compared: one can't be read, the columns can't be matched, the options
-- choose unknown columns or none, a number can't be compared, there are too many rows, two rows
-- have one key, or an allocation or a write failed
abbrev pub IsRunFault : Options → List ℕ → List ℕ → RunError → Type 0
IsRunFault options left_text right_text error.Memory = ⊤
IsRunFault options left_text right_text error.TooManyRows =
    HasTooManyRows options left_text right_text
IsRunFault options left_text right_text (error.KeyTwice side first again) =
    IsKeyFault options left_text right_text side
IsRunFault options left_text right_text (error.WideExponent side line name) =
    IsWideFault options left_text right_text side name.items
IsRunFault options left_text right_text (error.Csv side cause) =
    IsReadFault options.csv (text_on side left_text right_text) cause
IsRunFault options left_text right_text (error.Columns cause) =
    IsNamesFault options left_text right_text cause
IsRunFault options left_text right_text (error.Choice cause) =
    IsChoiceFault options left_text right_text cause
IsRunFault options left_text right_text (error.Write cause) = ⊤

-- a write failed
abbrev pub IsWrite : RunError → Type 0
IsWrite error.Memory = ⊥
IsWrite error.TooManyRows = ⊥
IsWrite (error.KeyTwice side first again) = ⊥
IsWrite (error.WideExponent side line name) = ⊥
IsWrite (error.Csv side cause) = ⊥
IsWrite (error.Columns cause) = ⊥
IsWrite (error.Choice cause) = ⊥
IsWrite (error.Write cause) = ⊤
