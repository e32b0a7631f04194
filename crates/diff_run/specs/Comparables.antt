-- The tables that the rows of two inputs are compared by.
--
-- With the columns "id", "n", where numbers count in all but "id", the row "7.0" "1.50" is compared
-- by "7.0" "15e-1". Where they do not count, it is compared as it is. With a tolerance of 0.1 for
-- "n" the right row "7.0" "1.55" is compared by "7.0" "15e-1" too, if these rows are partners.
use Rattle.std.specs.Borrow.{Bor}
use Rattle.std.specs.Prelude.{◌≡◌, ◌≤◌, ◌^◌, ℕ, Bool, false, List, [], Option, None, Some, IfSome}
use Rattle.std.specs.Prelude.{length, get_or, replicate, ⊤}
use Rattle.diff_columns.specs.Names.{Names, names_of}
use Rattle.diff_columns.specs.declared.error.Side.{Side}
use Rattle.diff_columns.specs.declared.error.Side.TheVariants.{Left, Right}
use Rattle.diff_csv.specs.declared.source.CsvTable.{CsvTable}
use Rattle.diff_numbers.specs.Columns.{number_columns}
use Rattle.diff_numbers.specs.Errors.{IsWideAt}
use Rattle.diff_numbers.specs.Rows.{IsComparableTable, comparable_rows}
use Rattle.diff_report.specs.Sides.{AreAsLarge, left_rows_by, right_rows_by}
use Rattle.diff_report.specs.declared.sides.Comparables.{Comparables}
use Rattle.diff_tolerances.specs.Rows.{AreTolerantRows, IsTolerantTable}
use Rattle.diff_tolerances.specs.declared.cells.Tolerance.{Tolerance}
use Rattle.diff_run.specs.declared.error.RunError.{RunError}
use Rattle.diff_run.specs.declared.error.RunError.TheVariants as error
use Rattle.diff_run.specs.declared.inputs.Both.{Both}
use Rattle.diff_run.specs.declared.options.Options.{Options}

-- the tolerances that the options give, if any
abbrev pub Tolerances : Type 0
Tolerances = Option (Bor (List Tolerance))

-- the columns that are compared as texts, if numbers count in all others
abbrev pub Texts : Type 0
Texts = Option (Bor (List (Bor (List ℕ))))

-- for each column whether its numbers count
abbrev pub numeric_columns : Texts → Names → List Bool
numeric_columns None names = replicate (length names) false
numeric_columns (Some texts) names = number_columns (names_of texts.now) names

-- the rows that rows with these columns are compared by, before tolerances: the same rows, or their
-- comparable rows, if numbers count or there are tolerances
abbrev pub rows_by : Tolerances → Texts → Names → List (List (List ℕ)) → List (List (List ℕ))
rows_by None None names rows = rows
rows_by None (Some texts) names rows = comparable_rows (numeric_columns (Some texts) names) rows
rows_by (Some tolerances) texts names rows = comparable_rows (numeric_columns texts names) rows

-- rows are those that right rows are compared by: the same rows, or those that the tolerances make
-- of them
abbrev pub AreRightRows : Tolerances → Names → List ℕ → List (List (List ℕ))
    → List (List (List ℕ)) → List (List (List ℕ)) → Type 0
AreRightRows None names keys left right made = made ≡ right
AreRightRows (Some tolerances) names keys left right made =
    AreTolerantRows tolerances.now names keys left right made

-- a table has the named columns, and a line for each row
pub record HasNamedColumns (names : Names) (input : CsvTable) : Type 0 where
  pub width : input.table.width ≡ length names
  pub lines : length input.lines.items ≡ length input.table.rows

-- both tables are those that the inputs' tables are compared by
pub record AreBothBy (numeric : List Bool) (both : Both) (by : Comparables) : Type 0 where
  pub left : IsComparableTable numeric both.left.table by.left
  pub right : IsComparableTable numeric both.right.table by.right

-- the inputs are compared by these tables, or as they are if there are none, without tolerances
pub record AreExact (texts : Texts) (names : Names) (both : Both) (by : Option Comparables) :
    Type 0 where
  pub left : left_rows_by both.left.table.rows by ≡ rows_by None texts names both.left.table.rows
  pub right : right_rows_by both.right.table.rows by
      ≡ rows_by None texts names both.right.table.rows
  pub large : IfSome by (AreAsLarge both.left.table both.right.table)

-- the inputs are compared by these tables, or as they are if there are none, as the options say
pub record AreComparables (options : Options) (names : Names) (keys : List ℕ) (both : Both)
    (by : Option Comparables) : Type 0 where
  pub left : left_rows_by both.left.table.rows by
      ≡ rows_by options.tolerances options.numbers names both.left.table.rows
  pub right : AreRightRows options.tolerances names keys
      (rows_by options.tolerances options.numbers names both.left.table.rows)
      (rows_by options.tolerances options.numbers names both.right.table.rows)
      (right_rows_by both.right.table.rows by)
  pub large : IfSome by (AreAsLarge both.left.table both.right.table)

-- the error names the column of a number on this side, or an allocation failed
abbrev pub NamesWideNumber : Names → ℕ → Side → RunError → Type 0
NamesWideNumber names column side error.Memory = ⊤
NamesWideNumber names column side (error.WideExponent s line name) = (s ≡ side)
    × (name.items ≡ get_or names column [])
NamesWideNumber names column side error.TooManyRows = ⊥
NamesWideNumber names column side (error.KeyTwice s first again) = ⊥
NamesWideNumber names column side (error.Csv s cause) = ⊥
NamesWideNumber names column side (error.Columns cause) = ⊥
NamesWideNumber names column side (error.Choice cause) = ⊥
NamesWideNumber names column side (error.Write cause) = ⊥

-- a number in the column of this name counts, and its exponent is wide
pub record HasWideNumber (numeric : List Bool) (names : Names) (rows : List (List (List ℕ)))
    (name : List ℕ) : Type 0 where
  pub row : ℕ
  pub column : ℕ
  pub wide : IsWideAt numeric rows row column
  pub named : name ≡ get_or names column []

-- a number on this side counts, and its exponent is wide; or an allocation failed
abbrev pub IsTableFault : List Bool → Names → List (List (List ℕ)) → Side → RunError → Type 0
IsTableFault numeric names rows side error.Memory = ⊤
IsTableFault numeric names rows side (error.WideExponent s line name) = (s ≡ side)
    × HasWideNumber numeric names rows name.items
IsTableFault numeric names rows side error.TooManyRows = ⊥
IsTableFault numeric names rows side (error.KeyTwice s first again) = ⊥
IsTableFault numeric names rows side (error.Csv s cause) = ⊥
IsTableFault numeric names rows side (error.Columns cause) = ⊥
IsTableFault numeric names rows side (error.Choice cause) = ⊥
IsTableFault numeric names rows side (error.Write cause) = ⊥

-- the table on a side
abbrev pub table_on : Side → Both → CsvTable
table_on Left both = both.left
table_on Right both = both.right

-- a number on the side that the error names counts, and its exponent is wide; or an allocation
-- failed
abbrev pub IsNumberFault : List Bool → Names → Both → RunError → Type 0
IsNumberFault numeric names both error.Memory = ⊤
IsNumberFault numeric names both (error.WideExponent side line name) =
    HasWideNumber numeric names (table_on side both).table.rows name.items
IsNumberFault numeric names both error.TooManyRows = ⊥
IsNumberFault numeric names both (error.KeyTwice side first again) = ⊥
IsNumberFault numeric names both (error.Csv side cause) = ⊥
IsNumberFault numeric names both (error.Columns cause) = ⊥
IsNumberFault numeric names both (error.Choice cause) = ⊥
IsNumberFault numeric names both (error.Write cause) = ⊥

-- the left table is the same, and the right one has the rows that the tolerances make of its rows
pub record AreTolerant (tolerances : List Tolerance) (names : Names) (keys : List ℕ)
    (tables made : Comparables) : Type 0 where
  pub left : made.left ≡ tables.left
  pub right : IsTolerantTable tolerances names keys tables.left tables.right made.right

-- each row of two tables has a number below 2^32
abbrev pub HaveFew : List (List (List ℕ)) → List (List (List ℕ)) → Type 0
HaveFew left right = (length left ≤ 2 ^ 32) × (length right ≤ 2 ^ 32)

-- the rows of two tables are too many, or an allocation failed
abbrev pub IsToleranceFault : Comparables → RunError → Type 0
IsToleranceFault tables error.Memory = ⊤
IsToleranceFault tables error.TooManyRows = ¬ (HaveFew tables.left.rows tables.right.rows)
IsToleranceFault tables (error.WideExponent side line name) = ⊥
IsToleranceFault tables (error.KeyTwice side first again) = ⊥
IsToleranceFault tables (error.Csv side cause) = ⊥
IsToleranceFault tables (error.Columns cause) = ⊥
IsToleranceFault tables (error.Choice cause) = ⊥
IsToleranceFault tables (error.Write cause) = ⊥

-- a number on the side that the error names counts, and its exponent is wide; the rows are too
-- many; or an allocation failed
abbrev pub IsComparedFault : Options → Names → Both → RunError → Type 0
IsComparedFault options names both error.Memory = ⊤
IsComparedFault options names both (error.WideExponent side line name) =
    HasWideNumber (numeric_columns options.numbers names) names
    (table_on side both).table.rows name.items
IsComparedFault options names both error.TooManyRows =
    ¬ (HaveFew both.left.table.rows both.right.table.rows)
IsComparedFault options names both (error.KeyTwice side first again) = ⊥
IsComparedFault options names both (error.Csv side cause) = ⊥
IsComparedFault options names both (error.Columns cause) = ⊥
IsComparedFault options names both (error.Choice cause) = ⊥
IsComparedFault options names both (error.Write cause) = ⊥
