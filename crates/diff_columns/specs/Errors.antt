-- Why columns are not matched.
--
-- With the key "id" the left columns "id", "city" and the right columns "id", "day", "day" are not
-- matched, since column 2 of the right side has the name of an earlier one.
use Rattle.std.specs.Prelude.{ℕ, List, codes}
use Rattle.diff_columns.specs.Names.{Names, AreMatchable, IsMissing, IsRepeated}
use Rattle.diff_columns.specs.declared.error.ColumnError.{ColumnError}
use Rattle.diff_columns.specs.declared.error.ColumnError.TheVariants.{Memory, NameTwice, NoKey}
use Rattle.diff_columns.specs.declared.error.Side.{Side}
use Rattle.diff_columns.specs.declared.error.Side.TheVariants.{Left, Right}

-- the word for a side
abbrev pub word_of : Side → List ℕ
word_of Left = codes "left"
word_of Right = codes "right"

-- the names of the columns of a side
abbrev pub names_on : Side → Names → Names → Names
names_on Left left right = left
names_on Right left right = right

-- a name comes twice, a key is missing, or the names can be matched and an allocation failed
abbrev pub IsColumnFault : Names → Names → Names → ColumnError → Type 0
IsColumnFault left right keys Memory = AreMatchable left right keys
IsColumnFault left right keys (NameTwice side column) = IsRepeated (names_on side left right) column
IsColumnFault left right keys (NoKey side key) = IsMissing (names_on side left right) keys key
