-- Two texts that are merged.
--
-- With the rows "7", "8" and "7", "9" and the keys 7, 8 and 7, 9 a sink receives a pair, a removed
-- row, and an added one.
use Rattle.std.specs.Prelude.{◌≡◌, ◌≤◌, ◌<◌, ◌^◌, ℕ, suc, Bool, true, false, List, [], ◌∷◌, Option}
use Rattle.std.specs.Prelude.{Some, None, length, map, ⊤}
use Rattle.diff_columns.specs.declared.error.Side.{Side}
use Rattle.diff_columns.specs.declared.error.Side.TheVariants.{Left, Right}
use Rattle.diff_csv.specs.Given.{AreRowsOf}
use Rattle.diff_csv.specs.Records.{IsReadFault}
use Rattle.diff_csv.specs.declared.options.CsvOptions.{CsvOptions}
use Rattle.diff_joins.specs.Merge.{ComesBefore, IsMerged}
use Rattle.diff_keys.specs.Matching.{IsMatching}
use Rattle.diff_keys.specs.Unique.{AllDiffer}
use Rattle.diff_keys.specs.declared.matching.Matching.{Matching}
use Rattle.diff_merge.specs.Cursors.{IsAt, next_key}
use Rattle.diff_merge.specs.Faults.{HasFall, HasTwice}
use Rattle.diff_merge.specs.Order.{key_less}
use Rattle.diff_merge.specs.Rows.{Seen, all_cells, keys_of}
use Rattle.diff_merge.specs.declared.cursor.Cursor.{Cursor}
use Rattle.diff_merge.specs.declared.error.MergeError.{MergeError}
use Rattle.diff_merge.specs.declared.error.MergeError.TheVariants as error
use Rattle.diff_merge.specs.declared.merge.Step.{Step}
use Rattle.diff_merge.specs.declared.merge.Step.TheVariants as step
use Rattle.diff_tables.specs.Keys.{cells_at}

-- the next step: rows of both texts that have one key, or a row whose key is less than the other
-- text's next one
abbrev pub IsStep : Option (List ℕ) → Option (List ℕ) → Step → Type 0
IsStep left right step.End = (left ≡ None) × (right ≡ None)
IsStep left right step.Pair = (key : List ℕ) × (left ≡ Some key) × (right ≡ Some key)
IsStep left right step.Removed = (key : List ℕ) × (left ≡ Some key) × ComesBefore key_less key right
IsStep left right step.Added = (key : List ℕ) × (right ≡ Some key) × ComesBefore key_less key left

-- a matching of no rows
pub record IsEmpty (m : Matching) : Type 0 where
  pub left_rows : m.left_rows.items ≡ []
  pub right_rows : m.right_rows.items ≡ []
  pub removed : m.removed.items ≡ []
  pub added : m.added.items ≡ []

-- each list of a matching has at most n rows
pub record HasFew (n : ℕ) (m : Matching) : Type 0 where
  pub left_rows : length m.left_rows.items ≤ n
  pub right_rows : length m.right_rows.items ≤ n
  pub removed : length m.removed.items ≤ n
  pub added : length m.added.items ≤ n

-- after n steps these rows of both texts have been passed, and a sink has received them
pub record IsMergeAt {L R S : Type 0} (left_remaining : L → Option (List ℕ))
    (right_remaining : R → Option (List ℕ)) (holds : S → List Seen → List Seen → Matching → Type 0)
    (options : CsvOptions) (left_text right_text : List ℕ) (n : ℕ) (left : Cursor L)
    (right : Cursor R) (sink : S) : Type 0 where
  pub left_rows : List Seen
  pub right_rows : List Seen
  pub matching : Matching
  pub left_at : IsAt left_remaining options left_text left_rows left
  pub right_at : IsAt right_remaining options right_text right_rows right
  pub merged : IsMerged key_less (keys_of left.keys.now left_rows)
      (keys_of right.keys.now right_rows) (next_key left) (next_key right) matching
  pub held : holds sink left_rows right_rows matching
  pub few : HasFew n matching

-- these are all rows of a text, in some columns, and no key comes twice where keys have to be
-- unique
pub record AreAll (options : CsvOptions) (text : List ℕ) (columns keys : List ℕ) (unique : Bool)
    (rows : List Seen) : Type 0 where
  pub records : List (List (List ℕ))
  pub all : AreRowsOf options text records
  pub cells : all_cells rows ≡ map (cells_at columns) records
  pub unique_keys : unique ≡ true → AllDiffer (keys_of keys rows)

-- a sink has received all rows of two texts, matched by key
pub record IsMergeOf {L R S : Type 0} (holds : S → List Seen → List Seen → Matching → Type 0)
    (options : CsvOptions) (left_text right_text : List ℕ) (left : Cursor L) (right : Cursor R)
    (sink : S) : Type 0 where
  pub left_rows : List Seen
  pub right_rows : List Seen
  pub matching : Matching
  pub left_all : AreAll options left_text left.columns.now left.keys.now left.unique left_rows
  pub right_all : AreAll options right_text right.columns.now right.keys.now right.unique right_rows
  pub matched :
      IsMatching (keys_of left.keys.now left_rows) (keys_of right.keys.now right_rows) matching
  pub held : holds sink left_rows right_rows matching

-- one of two facts, by the side
abbrev pub OnSide : Side → Type 0 → Type 0 → Type 0
OnSide Left P Q = P
OnSide Right P Q = Q

-- why two texts are not merged: one can't be read, or a key falls or comes twice; or an allocation
-- failed
abbrev pub IsMergeFault : {L R : Type 0} → CsvOptions → List ℕ → List ℕ → Cursor L → Cursor R
    → MergeError → Type 0
IsMergeFault options left_text right_text left right error.Memory = ⊤
IsMergeFault options left_text right_text left right (error.Csv side cause) =
    OnSide side (IsReadFault options left_text cause) (IsReadFault options right_text cause)
IsMergeFault options left_text right_text left right (error.Falls side line) =
    OnSide side (HasFall options left_text left.columns.now left.keys.now)
    (HasFall options right_text right.columns.now right.keys.now)
IsMergeFault options left_text right_text left right (error.KeyTwice side first again) =
    OnSide side ((left.unique ≡ true) × HasTwice options left_text left.columns.now left.keys.now)
    ((right.unique ≡ true) × HasTwice options right_text right.columns.now right.keys.now)
