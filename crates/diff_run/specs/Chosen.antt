-- What the options choose of the columns of two tables.
--
-- Of tables with the columns "id", "city" and "id", "day" the options may ignore "day", but not
-- "age", which is unknown to both. Where columns that one table has alone are left out, no column
-- is left to compare: "id" is the key, or is ignored.
use Rattle.std.specs.Borrow.{Bor}
use Rattle.std.specs.Prelude.{◌≡◌, ◌==◌, ◌&&◌, ◌||◌, ℕ, Bool, true, not, List, [], All}
use Rattle.std.specs.Prelude.{Option, None, Some, length, codes, map}
use Rattle.diff_columns.specs.Layout.{IsLayout}
use Rattle.diff_columns.specs.Names.{Names, IsKnown, IsUnknown, names_of}
use Rattle.diff_columns.specs.declared.layout.Layout.{Layout}
use Rattle.diff_run.specs.declared.error.ChoiceError.{ChoiceError}
use Rattle.diff_run.specs.declared.error.ChoiceError.TheVariants as choice
use Rattle.diff_run.specs.declared.error.NameList.{NameList}
use Rattle.diff_run.specs.declared.error.NameList.TheVariants.{Only, Ignored, Texts, Tolerances}
use Rattle.diff_run.specs.declared.options.Options.{Options}
use Rattle.diff_tolerances.specs.declared.cells.Tolerance.{Tolerance}

-- the words for a list of names
abbrev pub list_text : NameList → List ℕ
list_text Only = codes "columns to compare"
list_text Ignored = codes "columns to ignore"
list_text Texts = codes "columns to compare as texts"
list_text Tolerances = codes "columns with a tolerance"

-- the names that are given, if any are
abbrev pub names_given : Option (Bor (List (Bor (List ℕ)))) → Names
names_given None = []
names_given (Some names) = names_of names.now

-- the columns of tolerances
abbrev pub columns_of : List Tolerance → Names
columns_of tolerances = map (λ (t : Tolerance). t.column.now) tolerances

-- the columns of the tolerances that are given, if any are
abbrev pub columns_given : Option (Bor (List Tolerance)) → Names
columns_given None = []
columns_given (Some tolerances) = columns_of tolerances.now

-- the names in a list of the options
abbrev pub names_in : NameList → Options → Names
names_in Only options = names_given options.choice.only
names_in Ignored options = names_of options.choice.ignored.now
names_in Texts options = names_given options.numbers
names_in Tolerances options = columns_given options.tolerances

-- each name in a list of the options is that of a column of one of two tables
pub record AreKnown (options : Options) (left right : Names) : Type 0 where
  pub only : All (IsKnown left right) (names_in Only options)
  pub ignored : All (IsKnown left right) (names_in Ignored options)
  pub texts : All (IsKnown left right) (names_in Texts options)
  pub tolerances : All (IsKnown left right) (names_in Tolerances options)

-- neither table has a column alone
abbrev pub no_columns : Layout → Bool
no_columns layout = (length layout.left_alone.items == 0) && (length layout.right_alone.items == 0)

-- columns that one table has alone are left out, and only those of the key are in both
abbrev pub key_alone : Options → Layout → Bool
key_alone options layout = options.common && not (no_columns layout)
    && (length layout.left.items == length layout.keys.items)

-- no column is compared, and none that one table has alone is reported
abbrev pub none_compared : Options → Layout → Bool
none_compared options layout =
    (length layout.left.items == 0) && (options.common || no_columns layout)

-- one of two tables has columns, but none is compared or reported, or only those of the key are
abbrev pub nothing_left : Options → Names → Names → Layout → Bool
nothing_left options left right layout = not ((length left == 0) && (length right == 0))
    && (none_compared options layout || key_alone options layout)

-- a name of the options is unknown to both tables
abbrev pub IsUnknownName : Options → Names → Names → ChoiceError → Type 0
IsUnknownName options left right (choice.NoColumn list name) =
    IsUnknown left right (names_in list options) name
IsUnknownName options left right choice.NothingLeft = ⊥

-- why no columns are chosen: a name is unknown to both tables, or there are columns and none is
-- left
abbrev pub IsNoChoice : Options → Names → Names → ChoiceError → Type 0
IsNoChoice options left right (choice.NoColumn list name) =
    IsUnknown left right (names_in list options) name
IsNoChoice options left right choice.NothingLeft = (layout : Layout)
    × IsLayout left right options.choice layout
    × (nothing_left options left right layout ≡ true)
