-- A report that was told of the rows of two texts is the report of their tables.
use Rattle.std.proofs.Common.{◌≡◌, ◌∙◌, ◌<◌, ◌^◌, ℕ, true, false, List, [], ◌∷◌, ◌++◌, None, length, map, arith, ap, sym, refl}
use Rattle.std.proofs.lemmas.List.{get_or-map, length-map}
use Rattle.std.specs.Borrow.{Bor}
use Rattle.std.specs.Prelude.{Vec}
use Rattle.polars_arrays_bytes.specs.OffsetStrings.{offset_strings}
use Rattle.diff_columns.specs.Layout.{IsLayout}
use Rattle.diff_columns.specs.Names.{Names}
use Rattle.diff_csv.specs.Tables.{IsTableOf}
use Rattle.diff_csv.specs.declared.source.CsvTable.{CsvTable}
use Rattle.diff_keys.specs.declared.matching.Matching.{Matching}
use Rattle.diff_keys.specs.declared.outcome.Outcome.{Outcome}
use Rattle.diff_merge.specs.Merging.{AreAll}
use Rattle.diff_merge.specs.Rows.{Seen, all_cells, keys_of}
use Rattle.diff_report.specs.Counts.{column_counts}
use Rattle.diff_report.specs.Sides.{compared_left, compared_right}
use Rattle.diff_report.specs.declared.sides.Sides.{Sides}
use Rattle.diff_run.proofs.SideLemmas.{made_of, sides_are}
use Rattle.diff_run.specs.Comparables.{AreComparables}
use Rattle.diff_run.specs.Heads.{AreChosen, AreHeadsOf, IsFrameOf}
use Rattle.diff_run.specs.Inputs.{AreBothOf}
use Rattle.diff_run.specs.Run.{AreSidesOf, HaveUniqueKeys, IsReportOf, columns_text, differences_text, outcome_of}
use Rattle.diff_run.specs.declared.heads.Heads.{Heads}
use Rattle.diff_run.specs.declared.options.Options.{Options}
use Rattle.diff_run.specs.declared.sides.Frame.{Frame}
use Rattle.diff_single.specs.Frame as single
use Rattle.diff_single.specs.Frame.{naming_by}
use Rattle.diff_tables.specs.Comparison.{IsComparison}
use Rattle.diff_tables.specs.Keys.{cells_at, row_key, row_keys}
use Rattle.diff_tables.specs.declared.compare.Comparison.{Comparison}
use Rattle.diff_words.specs.declared.formats.Format.{Format}
use Rattle.diff_sorted.specs.Ends.{IsLentFrame, IsToldAs, IsToldOf}
use Rattle.diff_sorted.specs.Faults.{CanBeSorted}
use Rattle.diff_sorted.specs.Told.{HasRows, no_row}
use Rattle.diff_sorted.specs.declared.report.SortedReport.{SortedReport}

keys_same : (keys : List ℕ) (rows : List Seen) → row_keys keys (all_cells rows) ≡ keys_of keys rows
keys_same keys [] = refl
keys_same keys (r ∷ rows) = ap (λ ks. row_key keys r.cells ∷ ks) (keys_same keys rows)

-- a vector of these elements
abbrev with_all : {X Z : Type 0} → Vec X Z → (ws : List X) → length ws < 2 ^ 63 → Vec X Z
with_all v ws small = record { ptr = v.ptr; len = length ws; cap = length ws; alloc = v.alloc; items = ws; ok = (refl, omega arith); small = small }

-- the table of some rows; the matching lends what a vector has beside its elements
abbrev csv_of : Matching → ℕ → (rows : List Seen) → length rows < 2 ^ 62 → CsvTable
csv_of m width rows few = record {
  table = record { width = width; rows = all_cells rows; far = false };
  lines = with_all m.left_rows (map (λ (r : Seen). r.line) rows) (let count = length-map rows (λ (r : Seen). r.line) in omega (arith, few, count));
  numbers = None;
}

is_table : (options : Options) (text columns keys : List ℕ) (rows : List Seen) (m : Matching) (few : length rows < 2 ^ 62) → options.part ≡ None → AreAll options.csv text columns keys options.unique rows
    → IsTableOf options.csv text columns keys options.part (csv_of m (length columns) rows few)
is_table options text columns keys rows m few whole h = record {
  records = h.all.records;
  all = h.all.all;
  one_length = h.all.one_length;
  closed = h.all.closed;
  table = record {
    width = refl;
    rows = rw whole (h.cells ∙ ap (map (cells_at columns)) h.all.rows_are);
    lines = length-map rows (λ (r : Seen). r.line) ∙ sym (length-map rows (λ (r : Seen). r.cells));
    numbers = rw whole refl;
  };
}

compared_alone : (options : Options) (names : Names) (keys : List ℕ) (left right : CsvTable) → options.numbers ≡ None → options.tolerances ≡ None → AreComparables options names keys (record { left = left; right = right }) None
compared_alone options names keys left right none exact = record { left = rw (none, exact) refl; right = rw (none, exact) refl; large = tt }

module _ (options : Options) (left_text right_text left_name right_name : List ℕ) (h : Heads) (f : Frame) (r : SortedReport)
    (laid : IsLayout (offset_strings (λ x. x) h.left_names) (offset_strings (λ x. x) h.right_names) options.choice h.layout)
    (heads : AreHeadsOf options left_text right_text h) (chosen : AreChosen options h) (can : CanBeSorted options) (frame : IsFrameOf options h left_name right_name f) (lent : IsLentFrame options f r.frame)
    (t : IsToldOf options left_text right_text h.layout r) where
  abbrev left_table : CsvTable
  left_table = csv_of t.matching (length h.layout.left.items) t.left_rows t.told.left_few

  abbrev right_table : CsvTable
  right_table = csv_of t.matching (length h.layout.right.items) t.right_rows t.told.right_few

  both_are : AreBothOf options left_text right_text h.layout (record { left = left_table; right = right_table })
  both_are = record {
    left = is_table options left_text h.layout.left.items h.layout.keys.items t.left_rows t.matching t.told.left_few can.part t.left_all;
    right = is_table options right_text h.layout.right.items h.layout.keys.items t.right_rows t.matching t.told.right_few can.part t.right_all;
  }

  abbrev tables : Sides
  tables = made_of options f (record { left = left_table; right = right_table }) None

  sides : AreSidesOf options left_text right_text left_name right_name h.layout tables
  sides = sides_are options left_text right_text left_name right_name h f (record { left = left_table; right = right_table }) None heads laid chosen frame both_are
      (compared_alone options (offset_strings (λ x. x) f.names) f.keys.items left_table right_table can.numbers can.tolerances)

  few : length t.told.changed < 2 ^ 63
  few = let same = t.told.same in let small = t.matching.left_rows.small in omega (arith, same, small)

  abbrev whole : Comparison
  whole = record { matching = t.matching; changed = with_all t.matching.left_rows t.told.changed few }

  keyed : 0 < length r.frame.keys.now
  keyed =
      let some = can.keys in
      let each = laid.key_places.one_each in
      let names = length-map options.choice.keys.now (λ (name : Bor (List ℕ)). name.now) in
      let kept = ap length frame.keys in
      let given = ap length lent.keys in
      omega (arith, some, each, names, kept, given)

  framed : single.IsFrameOf r.frame tables
  framed = record {
    naming = rw (lent.names, lent.keys, lent.null, lent.colored) refl;
    left = sym lent.left;
    right = sym lent.right;
    keyed = keyed;
    comparables = refl;
  }

  left_rows : HasRows tables.left t.left_rows
  left_rows = λ i within. record {
    cells = get_or-map (λ (s : Seen). s.cells) t.left_rows i no_row [] within;
    number = omega arith;
    line = get_or-map (λ (s : Seen). s.line) t.left_rows i no_row 0 within;
  }

  right_rows : HasRows tables.right t.right_rows
  right_rows = λ i within. record {
    cells = get_or-map (λ (s : Seen). s.cells) t.right_rows i no_row [] within;
    number = omega arith;
    line = get_or-map (λ (s : Seen). s.line) t.right_rows i no_row 0 within;
  }

  as_told : IsToldAs r t.left_rows t.right_rows tables whole
  as_told = record { told = t.told; changed = refl; frame = framed; left = left_rows; right = right_rows }

  compared : IsComparison tables.keys.items (compared_left tables) (compared_right tables) whole
  compared = record {
    matching = rw (frame.keys, keys_same h.layout.keys.items t.left_rows, keys_same h.layout.keys.items t.right_rows) t.matched;
    changed = t.told.listed;
  }

  unique : options.unique ≡ true → HaveUniqueKeys tables
  unique asked = (
    rw (frame.keys, keys_same h.layout.keys.items t.left_rows) (t.left_all.unique_keys asked),
    rw (frame.keys, keys_same h.layout.keys.items t.right_rows) (t.right_all.unique_keys asked),
  )

  pub report_is : (columns written : List ℕ) (outcome : Outcome) → r.limit ≡ options.limit
      → columns ≡ columns_text options left_name right_name (offset_strings (λ x. x) h.left_names) (offset_strings (λ x. x) h.right_names) h.layout
      → ((ls rs : List Seen) (s : Sides) (c : Comparison) → IsToldAs r ls rs s c → written ≡ columns ++ differences_text r.frame.format s c (column_counts s c.matching c.changed.items) r.limit)
      → ((ls rs : List Seen) (s : Sides) (c : Comparison) → IsToldAs r ls rs s c → outcome ≡ outcome_of options h.layout c)
      → IsReportOf options left_text right_text left_name right_name written outcome
  report_is columns written outcome limit columns_are text comes =
      let named = rw (heads.left_names sides.left_records sides.left_all, heads.right_names sides.right_records sides.right_all) at columns_are in
      let counts = column_counts tables whole.matching whole.changed.items in
      let all = text t.left_rows t.right_rows tables whole as_told
      ∙ (ap (λ (x : Format). columns ++ differences_text x tables whole counts r.limit) lent.format ∙ ap (λ (x : ℕ). columns ++ differences_text options.format tables whole counts x) limit) in
      record {
        layout = h.layout;
        sides = tables;
        comparison = whole;
        sides_are = sides;
        compared = compared;
        unique = unique;
        text = all ∙ ap (λ l. l ++ differences_text options.format tables whole counts options.limit) named;
        outcome_is = comes t.left_rows t.right_rows tables whole as_told;
      }
