-- Worked examples of the sides of a report: two texts with the columns id and n, of one or two
-- rows.
use Rattle.std.proofs.Common.{◌≡◌, ℕ, pos, Bool, false, List, [], ◌∷◌, length, map, arith, refl}
use Rattle.std.proofs.Common.{Global}
use Rattle.std.proofs.lemmas.List.Elements.{All-nil}
use Rattle.std.specs.Prelude.{None, Vec, codes}
use Rattle.csv.specs.Machine.{next_record}
use Rattle.csv.specs.Reading.{Reached, strip_bom}
use Rattle.csv.specs.declared.parser.State.TheVariants as st
use Rattle.diff_csv.specs.Quotes.{ends_open, state_after}
use Rattle.diff_csv.specs.RecordLaws.{one_reading}
use Rattle.diff_csv.specs.Records.{AreRecordsOf, HaveOneLength}
use Rattle.diff_report.specs.declared.sides.Sides.{Sides}
use Rattle.diff_run.proofs.ExampleReport.{commas, options}
use Rattle.diff_run.specs.Run.{AreSidesOf}
use Rattle.diff_run.specs.declared.options.Options.{Options}
use Rattle.diff_tables.specs.Keys.{cells_at}
use Rattle.worked_examples.proofs.ExampleColumns.{header, laid_out, layout, lengths_one}
use Rattle.worked_examples.proofs.ExampleColumns.{lengths_two, matchable}
use Rattle.worked_examples.proofs.ExampleRows.{new_rows, old_rows}
use Rattle.worked_examples.proofs.ExampleVectors.{vector}

-- two texts
abbrev pub old_text : List ℕ
old_text = codes "id,n\n7,1\n8,2\n"

abbrev pub new_text : List ℕ
new_text = codes "id,n\n8,3\n"

-- their records, the header among them
pub old_read : AreRecordsOf commas old_text (header ∷ old_rows)
unfolding next_record Reached strip_bom
old_read = (
  st.StartRecord,
  [],
  (
    (_, st.StartRecord, codes "7,1\n8,2\n"),
    refl,
    refl,
    (
      (_, st.StartRecord, codes "8,2\n"),
      refl,
      refl,
      ((_, st.StartRecord, []), refl, refl, (refl, refl)),
    ),
  ),
  refl,
)

pub new_read : AreRecordsOf commas new_text (header ∷ new_rows)
unfolding next_record Reached strip_bom
new_read = (
  st.StartRecord,
  [],
  (
    (_, st.StartRecord, codes "8,3\n"),
    refl,
    refl,
    ((_, st.StartRecord, []), refl, refl, (refl, refl)),
  ),
  refl,
)

-- the header is not the only one
old-not_header : ¬ (AreRecordsOf commas old_text (header ∷ []))
old-not_header all =
    let same : header ∷ [] ≡ header ∷ old_rows =
    one_reading _ _ _ (header ∷ []) (header ∷ old_rows) all old_read in
    cc same

-- neither text ends within quotes
old_closed : ends_open commas old_text ≡ false
unfolding state_after strip_bom
old_closed = refl

pub new_closed : ends_open commas new_text ≡ false
unfolding state_after strip_bom
new_closed = refl

-- the options of dunkelva diff old.csv new.csv --key id, where keys have to be unique or not
abbrev pub by_id_options : Bool → Options
by_id_options unique = record options { unique = unique }

-- the sides that have these rows, each with the line at which it begins
abbrev pub sides_of : List (List (List ℕ)) → Vec ℕ Global → List (List (List ℕ)) → Vec ℕ Global
    → Sides
sides_of left left_lines right right_lines = record {
  left = record {
    name = vector (codes "old.csv") (omega arith);
    table =
        record { width = 2; rows = left; far = false };
    lines = left_lines;
    numbers = None;
  };
  right = record {
    name = vector (codes "new.csv") (omega arith);
    table =
        record { width = 2; rows = right; far = false };
    lines = right_lines;
    numbers = None;
  };
  comparables = None;
  names = record { offsets = pos 0 ∷ pos 2 ∷ pos 3 ∷ []; values = codes "idn"; validity = None };
  keys = vector (0 ∷ []) (omega arith);
  null = None;
  colored = false;
}

-- such sides are those of two texts that have these rows after the header
pub are_sides :
    (unique : Bool) (left_text right_text : List ℕ) (left right : List (List (List ℕ)))
    (left_lines right_lines : Vec ℕ Global)
    → AreRecordsOf commas left_text (header ∷ left)
    → AreRecordsOf commas right_text (header ∷ right)
    → HaveOneLength (header ∷ left) → HaveOneLength (header ∷ right)
    → ends_open commas left_text ≡ false → ends_open commas right_text ≡ false
    → left ≡ map (cells_at (0 ∷ 1 ∷ [])) left → right ≡ map (cells_at (0 ∷ 1 ∷ [])) right
    → length left_lines.items ≡ length left → length right_lines.items ≡ length right
    → AreSidesOf (by_id_options unique) left_text right_text (codes "old.csv") (codes "new.csv")
    layout (sides_of left left_lines right right_lines)
are_sides unique left_text right_text left right left_lines right_lines left_all right_all
    left_lengths right_lengths left_closed right_closed left_cells right_cells left_many
    right_many = record {
      left_records = header ∷ left;
      right_records = header ∷ right;
      left_all = left_all;
      right_all = right_all;
      left_lengths = left_lengths;
      right_lengths = right_lengths;
      left_closed = left_closed;
      right_closed = right_closed;
      matchable = matchable;
      laid_out = laid_out;
      known = record { only = All-nil _; ignored = All-nil _; texts = All-nil _; tolerances = All-nil _ };
      some_left = refl;
      left = record
          { named = refl; width = refl; rows = left_cells; lines = left_many; numbers = refl };
      right = record
          { named = refl; width = refl; rows = right_cells; lines = right_many; numbers = refl };
      left_compared = refl;
      right_compared = refl;
      column_names = refl;
      keys = refl;
      null = refl;
      colored = refl;
    }

-- the sides of both texts, whose rows begin at the lines 2 and 3, and at line 2
abbrev pub sides : Sides
sides = sides_of old_rows (vector (2 ∷ 3 ∷ []) (omega arith)) new_rows
    (vector (2 ∷ []) (omega arith))

pub sides_are : (unique : Bool)
    → AreSidesOf (by_id_options unique) old_text new_text (codes "old.csv") (codes "new.csv") layout
    sides
sides_are unique =
    are_sides unique old_text new_text old_rows new_rows (vector (2 ∷ 3 ∷ []) (omega arith))
    (vector (2 ∷ []) (omega arith)) old_read new_read
    (lengths_two (codes "7" ∷ codes "1" ∷ []) (codes "8" ∷ codes "2" ∷ []) refl refl)
    (lengths_one (codes "8" ∷ codes "3" ∷ []) refl) old_closed new_closed refl refl refl refl
