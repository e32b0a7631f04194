-- Texts that are read row by row.
--
-- After the row "7" "1" of the text "id,n", "7,1", "8,2" the row "8" "2" is next, and after this
-- there is none.
use Rattle.std.specs.Prelude.{◌≡◌, ◌⊎◌, ℕ, suc, Bool, true, false, List, [], ◌∷◌, Option, Some}
use Rattle.std.specs.Prelude.{None, IfSome, All, length, map, option_map, unwrap_or}
use Rattle.csv.specs.Records.{fields_of}
use Rattle.diff_csv.specs.Given.{GivesOne}
use Rattle.diff_csv.specs.declared.options.CsvOptions.{CsvOptions}
use Rattle.diff_joins.specs.Merge.{ComesBefore}
use Rattle.diff_keys.specs.Unique.{AllDiffer}
use Rattle.diff_merge.specs.Order.{key_less}
use Rattle.diff_merge.specs.Rows.{Seen, all_cells, keys_of}
use Rattle.diff_merge.specs.declared.cursor.Cursor.{Cursor}
use Rattle.diff_tables.specs.Keys.{cells_at, row_key}

-- the cells of the row that was read last
abbrev pub last_cells : {R : Type 0} → Cursor R → List (List ℕ)
last_cells c = cells_at c.columns.now (fields_of c.row.value)

-- the next row, where there is one
abbrev pub next_seen : {R : Type 0} → Cursor R → Seen
next_seen c = record { cells = last_cells c; line = unwrap_or c.line 0 }

-- the key of the next row, where there is one
abbrev pub next_key : {R : Type 0} → Cursor R → Option (List ℕ)
next_key c = option_map (λ _. c.key.items) c.line

-- a key comes after another: it is greater, or the same where keys may come twice
abbrev pub GoesOn : Bool → List ℕ → List ℕ → Type 0
GoesOn unique before key = ((unique ≡ false) × (before ≡ key)) ⊎ (key_less before key ≡ true)

-- no two keys are the same, and all are less than the next one
pub record AreBelow (keys : List (List ℕ)) (next : Option (List ℕ)) : Type 0 where
  pub differ : AllDiffer keys
  pub below : All (λ key. ComesBefore key_less key next) keys

-- these rows of the text have been passed, and the next one is at hand, where there is one
pub record IsAt {R : Type 0} (remaining : R → Option (List ℕ)) (options : CsvOptions)
    (text : List ℕ) (rows : List Seen) (c : Cursor R) : Type 0 where
  pub records : List (List (List ℕ))
  pub given : GivesOne remaining options text c.reader records (fields_of c.row.value) c.line
  pub cells : all_cells rows ≡ map (cells_at c.columns.now) records
  pub number : c.number ≡ suc (length rows)
  pub key : IfSome c.line (λ _. c.key.items ≡ row_key c.keys.now (last_cells c))
  pub unique : c.unique ≡ true → AreBelow (keys_of c.keys.now rows) (next_key c)

-- a cursor goes over the same columns as another
pub record IsAlike {R : Type 0} (old new : Cursor R) : Type 0 where
  pub columns : new.columns ≡ old.columns
  pub keys : new.keys ≡ old.keys
  pub unique : new.unique ≡ old.unique
  pub side : new.side ≡ old.side
