-- Sides that are made of matched columns.
use Rattle.std.proofs.Common.{◌≡◌, ◌∙◌, ◌<◌, ℕ, List, length, get_or, [], true, Option, ap, sym, subst, refl}
use Rattle.std.proofs.lemmas.List.{length-map}
use Rattle.std.specs.Prelude.{All, IfSome}
use Rattle.polars_arrays_bytes.specs.OffsetStrings.{offset_strings}
use Rattle.diff_columns.specs.Layout.{IsLayout}
use Rattle.diff_columns.specs.LayoutLaws.{keys_within}
use Rattle.diff_columns.specs.Names.{Names, names_of}
use Rattle.diff_columns.specs.Errors.{IsColumnFault}
use Rattle.diff_columns.specs.declared.error.ColumnError.{ColumnError}
use Rattle.diff_columns.specs.declared.error.ColumnError.TheVariants as column
use Rattle.diff_columns.specs.declared.error.Side.{Side}
use Rattle.diff_columns.specs.declared.error.Side.TheVariants.{Left, Right}
use Rattle.diff_columns.specs.declared.layout.Layout.{Layout}
use Rattle.diff_csv.specs.Records.{AreRecordsOf}
use Rattle.diff_csv.specs.Records as csv
use Rattle.diff_csv.specs.Tables.{HasShape}
use Rattle.diff_csv.specs.declared.source.CsvTable.{CsvTable}
use Rattle.diff_report.specs.Sides.{AreAsLarge, AreSides, compared_left, compared_right}
use Rattle.diff_report.specs.declared.sides.Comparables.{Comparables}
use Rattle.diff_report.specs.declared.sides.Sides.{Sides}
use Rattle.diff_run.specs.Comparables.{AreComparables, HasNamedColumns, HasWideNumber, IsComparedFault, numeric_columns, table_on}
use Rattle.diff_run.specs.Faults.{IsRowsFault, IsRunFault, IsSideFault, rows_on}
use Rattle.diff_run.specs.Heads.{AreChosen, AreHeadsOf, IsFrameOf, IsHeadsFault, fault_of}
use Rattle.diff_run.specs.Inputs.{AreBothOf}
use Rattle.diff_run.specs.Run.{AreSidesOf}
use Rattle.diff_run.specs.declared.error.ChoiceError.TheVariants as choice
use Rattle.diff_run.specs.declared.error.RunError.{RunError}
use Rattle.diff_run.specs.declared.error.RunError.TheVariants as error
use Rattle.diff_run.specs.declared.heads.Heads.{Heads}
use Rattle.diff_run.specs.declared.inputs.Both.{Both}
use Rattle.diff_run.specs.declared.options.Options.{Options}
use Rattle.diff_run.specs.declared.sides.Frame.{Frame}
use Rattle.diff_tables.specs.Keys.{cells_at}

-- the sides that a frame and the rows of both inputs make
abbrev pub made_of : Options → Frame → Both → Option Comparables → Sides
made_of options f b by = record {
  left = record { name = f.left; table = b.left.table; lines = b.left.lines; numbers = b.left.numbers };
  right = record { name = f.right; table = b.right.table; lines = b.right.lines; numbers = b.right.numbers };
  comparables = by;
  names = f.names;
  keys = f.keys;
  null = f.null;
  colored = options.colored;
}

-- as many names as columns
pub length_names : (columns : List ℕ) (names : Names) → length (cells_at columns names) ≡ length columns
length_names columns names = length-map columns (λ c. get_or names c [])

-- the keys are among the columns
pub keys_named : (options : Options) (h : Heads) (left right : List ℕ) (f : Frame) → IsLayout (offset_strings (λ x. x) h.left_names) (offset_strings (λ x. x) h.right_names) options.choice h.layout → IsFrameOf options h left right f
    → All (λ column. column < length (offset_strings (λ x. x) f.names)) f.keys.items
keys_named options h left right f laid frame =
    subst (λ ks. All (λ column. column < length (offset_strings (λ x. x) f.names)) ks) (sym frame.keys)
    (subst (λ n. All (λ column. column < n) h.layout.keys.items) (sym count) (keys_within (offset_strings (λ x. x) h.left_names) (offset_strings (λ x. x) h.right_names) options.choice h.layout laid))
  where
    count : length (offset_strings (λ x. x) f.names) ≡ length h.layout.left.items
    count = ap length frame.column_names ∙ length_names h.layout.left.items (offset_strings (λ x. x) h.left_names)

-- sides of matched columns have these columns, and the keys are some of them
pub sides_fit : (options : Options) (h : Heads) (left right : List ℕ) (f : Frame) (b : Both) (by : Option Comparables)
    → IsLayout (offset_strings (λ x. x) h.left_names) (offset_strings (λ x. x) h.right_names) options.choice h.layout → IsFrameOf options h left right f
    → HasShape h.layout.left.items b.left → HasShape h.layout.right.items b.right → IfSome by (AreAsLarge b.left.table b.right.table) → AreSides (made_of options f b by)
sides_fit options h left right f b by laid frame l r large = record {
  comparables = large;
  left = record { width = l.width ∙ sym count; lines = l.lines; numbers = l.numbers };
  right = record { width = r.width ∙ (sym laid.same_names.one_length ∙ sym count); lines = r.lines; numbers = r.numbers };
  keys = keys_named options h left right f laid frame;
}
  where
    count : length (offset_strings (λ x. x) f.names) ≡ length h.layout.left.items
    count = ap length frame.column_names ∙ length_names h.layout.left.items (offset_strings (λ x. x) h.left_names)

-- the sides of two texts, whose names are those of the columns that were matched
pub sides_are : (options : Options) (left_text right_text left right : List ℕ) (h : Heads) (f : Frame) (b : Both) (by : Option Comparables) → AreHeadsOf options left_text right_text h
    → IsLayout (offset_strings (λ x. x) h.left_names) (offset_strings (λ x. x) h.right_names) options.choice h.layout → AreChosen options h → IsFrameOf options h left right f
    → AreBothOf options left_text right_text h.layout b → AreComparables options (offset_strings (λ x. x) f.names) f.keys.items b by
    → AreSidesOf options left_text right_text left right h.layout (made_of options f b by)
sides_are options left_text right_text left right h f b by heads laid chosen frame both compared =
    let l = both.left in
    let r = both.right in
    let el = heads.left_names l.records l.all in
    let er = heads.right_names r.records r.all in
    record {
      left_records = l.records;
      right_records = r.records;
      left_all = l.all;
      right_all = r.all;
      left_lengths = l.one_length;
      right_lengths = r.one_length;
      left_closed = l.closed;
      right_closed = r.closed;
      matchable = rw (el, er) at heads.matchable;
      laid_out = rw (el, er) at laid;
      known = rw (el, er) at chosen.known;
      some_left = rw (el, er) at chosen.some_left;
      left = record { named = frame.left_named; width = l.table.width; rows = l.table.rows; lines = l.table.lines; numbers = l.table.numbers };
      right = record { named = frame.right_named; width = r.table.width; rows = r.table.rows; lines = r.table.lines; numbers = r.table.numbers };
      left_compared = compared.left;
      right_compared = compared.right;
      column_names = rw el at frame.column_names;
      keys = frame.keys;
      null = frame.null;
      colored = refl;
    }

-- rows that can't be compared are those of the two texts
pub rows_fault : (options : Options) (left_text right_text left right : List ℕ) (layout : Layout) (s : Sides) (e : RunError) → AreSidesOf options left_text right_text left right layout s
    → IsRowsFault options s e → IsRunFault options left_text right_text e
rows_fault options left_text right_text left right layout s error.Memory sides fault = fault
rows_fault options left_text right_text left right layout s error.TooManyRows sides fault = record {
  left_records = sides.left_records;
  right_records = sides.right_records;
  left_all = sides.left_all;
  right_all = sides.right_all;
  layout = layout;
  laid_out = sides.laid_out;
  many = rw (sides.left.rows, sides.right.rows) at fault;
}
rows_fault options left_text right_text left right layout s (error.KeyTwice side first again) sides fault = record {
  left_name = left;
  right_name = right;
  layout = layout;
  sides = s;
  sides_are = sides;
  twice = fault.1;
  asked = fault.0;
}
rows_fault options left_text right_text left right layout s (error.WideExponent side line name) sides fault = absurd fault
rows_fault options left_text right_text left right layout s (error.Csv side cause) sides fault = absurd fault
rows_fault options left_text right_text left right layout s (error.Columns cause) sides fault = absurd fault
rows_fault options left_text right_text left right layout s (error.Choice cause) sides fault = absurd fault
rows_fault options left_text right_text left right layout s (error.Write cause) sides fault = absurd fault

-- a fault of a side is one of both
pub left_fault : (options : Options) (s : Sides) (e : RunError) → options.unique ≡ true → IsSideFault (compared_left s) s.keys.items Left e → IsRowsFault options s e
left_fault options s error.Memory asked fault = fault
left_fault options s error.TooManyRows asked fault = absurd fault
left_fault options s (error.KeyTwice side first again) asked (is, twice) = (asked, rw is twice)
left_fault options s (error.WideExponent side line name) asked fault = absurd fault
left_fault options s (error.Csv side cause) asked fault = absurd fault
left_fault options s (error.Columns cause) asked fault = absurd fault
left_fault options s (error.Choice cause) asked fault = absurd fault
left_fault options s (error.Write cause) asked fault = absurd fault

pub right_fault : (options : Options) (s : Sides) (e : RunError) → options.unique ≡ true → IsSideFault (compared_right s) s.keys.items Right e → IsRowsFault options s e
right_fault options s error.Memory asked fault = fault
right_fault options s error.TooManyRows asked fault = absurd fault
right_fault options s (error.KeyTwice side first again) asked (is, twice) = (asked, rw is twice)
right_fault options s (error.WideExponent side line name) asked fault = absurd fault
right_fault options s (error.Csv side cause) asked fault = absurd fault
right_fault options s (error.Columns cause) asked fault = absurd fault
right_fault options s (error.Choice cause) asked fault = absurd fault
right_fault options s (error.Write cause) asked fault = absurd fault

-- inputs of matched columns have the columns that are named
pub named_left : (options : Options) (h : Heads) (left right : List ℕ) (f : Frame) (t : CsvTable) → IsFrameOf options h left right f
    → HasShape h.layout.left.items t → HasNamedColumns (offset_strings (λ x. x) f.names) t
named_left options h left right f t frame shape = record {
  width = shape.width ∙ sym (ap length frame.column_names ∙ length_names h.layout.left.items (offset_strings (λ x. x) h.left_names));
  lines = shape.lines;
}

pub named_right : (options : Options) (h : Heads) (left right : List ℕ) (f : Frame) (t : CsvTable)
    → IsLayout (offset_strings (λ x. x) h.left_names) (offset_strings (λ x. x) h.right_names) options.choice h.layout → IsFrameOf options h left right f
    → HasShape h.layout.right.items t → HasNamedColumns (offset_strings (λ x. x) f.names) t
named_right options h left right f t laid frame shape = record {
  width = shape.width ∙ (sym laid.same_names.one_length ∙ sym (ap length frame.column_names ∙ length_names h.layout.left.items (offset_strings (λ x. x) h.left_names)));
  lines = shape.lines;
}

-- the rows on a side are those that were read
rows_read : (options : Options) (left_text right_text : List ℕ) (layout : Layout) (b : Both) (both : AreBothOf options left_text right_text layout b) (side : Side)
    → (table_on side b).table.rows ≡ rows_on side options layout both.left.records both.right.records
rows_read options left_text right_text layout b both Left = both.left.table.rows
rows_read options left_text right_text layout b both Right = both.right.table.rows

-- rows that can't be compared are those of the two texts
pub number_fault : (options : Options) (left_text right_text left right : List ℕ) (h : Heads) (f : Frame) (b : Both) (e : RunError) → AreHeadsOf options left_text right_text h
    → IsLayout (offset_strings (λ x. x) h.left_names) (offset_strings (λ x. x) h.right_names) options.choice h.layout → IsFrameOf options h left right f
    → AreBothOf options left_text right_text h.layout b → IsComparedFault options (offset_strings (λ x. x) f.names) b e → IsRunFault options left_text right_text e
number_fault options left_text right_text left right h f b error.Memory heads laid frame both fault = tt
number_fault options left_text right_text left right h f b (error.WideExponent side line name) heads laid frame both fault =
    let el = heads.left_names both.left.records both.left.all in
    let er = heads.right_names both.right.records both.right.all in
    record {
      left_records = both.left.records;
      right_records = both.right.records;
      left_all = both.left.all;
      right_all = both.right.all;
      layout = h.layout;
      laid_out = rw (el, er) at laid;
      names = offset_strings (λ x. x) f.names;
      names_are = rw el at frame.column_names;
      wide = subst (λ rows. HasWideNumber (numeric_columns options.numbers (offset_strings (λ x. x) f.names)) (offset_strings (λ x. x) f.names) rows name.items)
          (rows_read options left_text right_text h.layout b both side) fault;
    }
number_fault options left_text right_text left right h f b error.TooManyRows heads laid frame both fault =
    let el = heads.left_names both.left.records both.left.all in
    let er = heads.right_names both.right.records both.right.all in
    record {
      left_records = both.left.records;
      right_records = both.right.records;
      left_all = both.left.all;
      right_all = both.right.all;
      layout = h.layout;
      laid_out = rw (el, er) at laid;
      many = rw (both.left.table.rows, both.right.table.rows) at fault;
    }
number_fault options left_text right_text left right h f b (error.KeyTwice side first again) heads laid frame both fault = absurd fault
number_fault options left_text right_text left right h f b (error.Csv side cause) heads laid frame both fault = absurd fault
number_fault options left_text right_text left right h f b (error.Columns cause) heads laid frame both fault = absurd fault
number_fault options left_text right_text left right h f b (error.Choice cause) heads laid frame both fault = absurd fault
number_fault options left_text right_text left right h f b (error.Write cause) heads laid frame both fault = absurd fault

-- why the columns of two texts are not matched is why the texts are not compared
pub columns_fault : (options : Options) (left_text right_text : List ℕ) (left right : Names) (e : ColumnError)
    → ((records : List (List (List ℕ))) → AreRecordsOf options.csv left_text records → left ≡ csv.names_of options.csv.has_header records)
    → ((records : List (List (List ℕ))) → AreRecordsOf options.csv right_text records → right ≡ csv.names_of options.csv.has_header records)
    → IsColumnFault left right (names_of options.choice.keys.now) e → IsRunFault options left_text right_text (fault_of e)
columns_fault options left_text right_text left right column.Memory l r h = tt
columns_fault options left_text right_text left right (column.NameTwice side at) l r h = λ all_left all_right are_left are_right. rw (l all_left are_left, r all_right are_right) at h
columns_fault options left_text right_text left right (column.NoKey side key) l r h = λ all_left all_right are_left are_right. rw (l all_left are_left, r all_right are_right) at h

-- where the options choose no columns of two texts, these are not compared
pub heads_fault : (options : Options) (left_text right_text : List ℕ) (h : Heads) (e : RunError) → AreHeadsOf options left_text right_text h
    → IsLayout (offset_strings (λ x. x) h.left_names) (offset_strings (λ x. x) h.right_names) options.choice h.layout → IsHeadsFault options h e → IsRunFault options left_text right_text e
heads_fault options left_text right_text h (error.Choice (choice.NoColumn list name)) heads laid fault = λ left right all_left all_right.
    rw (heads.left_names left all_left, heads.right_names right all_right) at fault
heads_fault options left_text right_text h (error.Choice choice.NothingLeft) heads laid fault = λ left right all_left all_right. (
  h.layout,
  rw (heads.left_names left all_left, heads.right_names right all_right) at laid,
  rw (heads.left_names left all_left, heads.right_names right all_right) at fault,
)
heads_fault options left_text right_text h error.Memory heads laid fault = absurd fault
heads_fault options left_text right_text h error.TooManyRows heads laid fault = absurd fault
heads_fault options left_text right_text h (error.KeyTwice side first again) heads laid fault = absurd fault
heads_fault options left_text right_text h (error.WideExponent side line name) heads laid fault = absurd fault
heads_fault options left_text right_text h (error.Csv side cause) heads laid fault = absurd fault
heads_fault options left_text right_text h (error.Columns cause) heads laid fault = absurd fault
heads_fault options left_text right_text h (error.Write cause) heads laid fault = absurd fault
