-- The columns of two inputs.
use Rattle.std.specs.Prelude.{◌≡◌, ℕ, true, false, List, option_map}
use Rattle.polars_arrays_bytes.specs.OffsetStrings.{offset_strings}
use Rattle.diff_columns.specs.Names.{AreMatchable, IsUnknown, names_of}
use Rattle.diff_csv.specs.Records.{AreRecordsOf}
use Rattle.diff_csv.specs.Records as csv
use Rattle.diff_columns.specs.declared.error.ColumnError.{ColumnError}
use Rattle.diff_columns.specs.declared.error.ColumnError.TheVariants as column
use Rattle.diff_run.specs.Chosen.{AreKnown, names_in, nothing_left}
use Rattle.diff_run.specs.declared.error.ChoiceError.TheVariants as choice
use Rattle.diff_run.specs.declared.error.RunError.{RunError}
use Rattle.diff_run.specs.declared.error.RunError.TheVariants as error
use Rattle.diff_run.specs.declared.heads.Heads.{Heads}
use Rattle.diff_run.specs.declared.options.Options.{Options}
use Rattle.diff_run.specs.declared.sides.Frame.{Frame}
use Rattle.diff_tables.specs.Keys.{cells_at}

-- the names are those of the texts' columns, and can be matched
pub record AreHeadsOf (options : Options) (left_text right_text : List ℕ) (h : Heads) : Type 0 where
  pub left_names : (records : List (List (List ℕ))) → AreRecordsOf options.csv left_text records
      → offset_strings (λ x. x) h.left_names ≡ csv.names_of options.csv.has_header records
  pub right_names : (records : List (List (List ℕ))) → AreRecordsOf options.csv right_text records
      → offset_strings (λ x. x) h.right_names ≡ csv.names_of options.csv.has_header records
  pub matchable :
      AreMatchable (offset_strings (λ x. x) h.left_names) (offset_strings (λ x. x) h.right_names)
      (names_of options.choice.keys.now)

-- the options choose known columns, and some are left
pub record AreChosen (options : Options) (h : Heads) : Type 0 where
  pub known :
      AreKnown options (offset_strings (λ x. x) h.left_names)
      (offset_strings (λ x. x) h.right_names)
  pub some_left :
      nothing_left options (offset_strings (λ x. x) h.left_names)
      (offset_strings (λ x. x) h.right_names) h.layout ≡ false

-- the options choose no columns
abbrev pub IsHeadsFault : Options → Heads → RunError → Type 0
IsHeadsFault options h error.Memory = ⊥
IsHeadsFault options h error.TooManyRows = ⊥
IsHeadsFault options h (error.KeyTwice side first again) = ⊥
IsHeadsFault options h (error.WideExponent side line name) = ⊥
IsHeadsFault options h (error.Csv side cause) = ⊥
IsHeadsFault options h (error.Columns cause) = ⊥
IsHeadsFault options h (error.Choice (choice.NoColumn list name)) =
    IsUnknown (offset_strings (λ x. x) h.left_names) (offset_strings (λ x. x) h.right_names)
    (names_in list options) name
IsHeadsFault options h (error.Choice choice.NothingLeft) =
    nothing_left options (offset_strings (λ x. x) h.left_names)
    (offset_strings (λ x. x) h.right_names) h.layout ≡ true
IsHeadsFault options h (error.Write cause) = ⊥

-- the frame has the names of the inputs, those of the columns that are compared, and the places of
-- the keys
pub record IsFrameOf (options : Options) (h : Heads) (left right : List ℕ) (f : Frame) :
    Type 0 where
  pub left_named : f.left.items ≡ left
  pub right_named : f.right.items ≡ right
  pub column_names : offset_strings (λ x. x) f.names
      ≡ cells_at h.layout.left.items (offset_strings (λ x. x) h.left_names)
  pub keys : f.keys.items ≡ h.layout.keys.items
  pub null : option_map (λ v. v.items) f.null ≡ option_map (λ v. v.now) options.null

-- why two inputs are not compared, where their columns are not matched
abbrev pub fault_of : ColumnError → RunError
fault_of column.Memory = error.Memory
fault_of (column.NameTwice side at) = error.Columns (column.NameTwice side at)
fault_of (column.NoKey side key) = error.Columns (column.NoKey side key)
