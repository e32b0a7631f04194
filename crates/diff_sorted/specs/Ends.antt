-- What a report was told of the whole of two sorted texts.
use Rattle.std.specs.Option.{option_map}
use Rattle.std.specs.Prelude.{◌≡◌, ℕ, List}
use Rattle.diff_columns.specs.declared.layout.Layout.{Layout}
use Rattle.diff_keys.specs.Matching.{IsMatching}
use Rattle.diff_keys.specs.declared.matching.Matching.{Matching}
use Rattle.diff_merge.specs.Merging.{AreAll}
use Rattle.diff_merge.specs.Rows.{Seen, keys_of}
use Rattle.diff_report.specs.declared.sides.Sides.{Sides}
use Rattle.diff_run.specs.declared.options.Options.{Options}
use Rattle.diff_run.specs.declared.sides.Frame as run
use Rattle.diff_single.specs.Frame.{IsFrameOf}
use Rattle.diff_single.specs.declared.frame.Frame.{Frame}
use Rattle.diff_tables.specs.declared.compare.Comparison.{Comparison}
use Rattle.diff_sorted.specs.Told.{HasRows, IsTold}
use Rattle.diff_sorted.specs.declared.report.SortedReport.{SortedReport}

-- a report was told of all rows of two texts, as they are matched by key
pub record IsToldOf (options : Options) (left_text right_text : List ℕ) (layout : Layout)
    (r : SortedReport) : Type 0 where
  pub left_rows : List Seen
  pub right_rows : List Seen
  pub matching : Matching
  pub left_all : AreAll options.csv left_text layout.left.items layout.keys.items options.unique
      left_rows
  pub right_all : AreAll options.csv right_text layout.right.items layout.keys.items options.unique
      right_rows
  pub matched : IsMatching (keys_of layout.keys.items left_rows)
      (keys_of layout.keys.items right_rows) matching
  pub told : IsTold r left_rows right_rows matching

-- the frame lends what a report has beside the rows
pub record IsLentFrame (options : Options) (f : run.Frame) (g : Frame) : Type 0 where
  pub names : g.names.now ≡ f.names
  pub keys : g.keys.now ≡ f.keys.items
  pub null : option_map (λ v. v.now) g.null ≡ option_map (λ v. v.items) f.null
  pub colored : g.colored ≡ options.colored
  pub format : g.format ≡ options.format
  pub left : g.left.now ≡ f.left.items
  pub right : g.right.now ≡ f.right.items

-- of two tables with these rows, and of a comparison with the pairs that are changed, a report was
-- told all
pub record IsToldAs (r : SortedReport) (left_rows right_rows : List Seen) (s : Sides)
    (c : Comparison) : Type 0 where
  pub told : IsTold r left_rows right_rows c.matching
  pub changed : c.changed.items ≡ told.changed
  pub frame : IsFrameOf r.frame s
  pub left : HasRows s.left left_rows
  pub right : HasRows s.right right_rows
