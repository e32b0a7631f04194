-- Why sorted texts are not compared.
use Rattle.std.proofs.Common.{◌≡◌, ◌∙◌, ℕ, Bool, true, false, List, Option, Some, None, sym, refl}
use Rattle.std.specs.Prelude.{is_some}
use Rattle.polars_arrays_bytes.specs.OffsetStrings.{offset_strings}
use Rattle.diff_columns.specs.Layout.{IsLayout}
use Rattle.diff_columns.specs.declared.error.Side.{Side}
use Rattle.diff_columns.specs.declared.error.Side.TheVariants.{Left, Right}
use Rattle.diff_columns.specs.declared.layout.Layout.{Layout}
use Rattle.diff_merge.specs.Faults.{IsTextFault}
use Rattle.diff_merge.specs.Merging.{IsMergeFault, IsMergeOf}
use Rattle.diff_merge.specs.declared.cursor.Cursor.{Cursor}
use Rattle.diff_merge.specs.declared.error.MergeError.{MergeError}
use Rattle.diff_merge.specs.declared.error.MergeError.TheVariants as merge
use Rattle.diff_run.specs.Faults.{text_on}
use Rattle.diff_run.specs.Heads.{AreHeadsOf}
use Rattle.diff_run.specs.declared.heads.Heads.{Heads}
use Rattle.diff_run.specs.declared.options.Options.{Options}
use Rattle.diff_sorted.specs.Ends.{IsToldOf}
use Rattle.diff_sorted.specs.Faults.{IsSortedFault, fault_of}
use Rattle.diff_sorted.specs.Told.{IsTold}
use Rattle.diff_sorted.specs.declared.report.SortedReport.{SortedReport}

-- a text that can't be read
pub text_fault : (options : Options) (left_text right_text : List ℕ) (side : Side) (e : MergeError) → IsTextFault side options.csv (text_on side left_text right_text) e → IsSortedFault options left_text right_text (fault_of e)
text_fault options left_text right_text side merge.Memory h = tt
text_fault options left_text right_text side (merge.Csv s cause) h = rw h.0 h.1
text_fault options left_text right_text side (merge.Falls s line) h = absurd h
text_fault options left_text right_text side (merge.KeyTwice s first again) h = absurd h

-- a cursor goes over the columns and the keys of a layout
pub record GoesOver {R : Type 0} (columns keys : List ℕ) (unique : Bool) (c : Cursor R) : Type 0 where
  pub columns_are : c.columns.now ≡ columns
  pub keys_are : c.keys.now ≡ keys
  pub unique_is : c.unique ≡ unique

-- texts that are not merged
pub merge_fault : {L R : Type 0} (options : Options) (left_text right_text : List ℕ) (h : Heads) (left : Cursor L) (right : Cursor R) (e : MergeError) → AreHeadsOf options left_text right_text h
    → IsLayout (offset_strings (λ x. x) h.left_names) (offset_strings (λ x. x) h.right_names) options.choice h.layout
    → GoesOver h.layout.left.items h.layout.keys.items options.unique left → GoesOver h.layout.right.items h.layout.keys.items options.unique right
    → IsMergeFault options.csv left_text right_text left right e → IsSortedFault options left_text right_text (fault_of e)
merge_fault options left_text right_text h left right merge.Memory heads laid l r f = tt
merge_fault options left_text right_text h left right (merge.Csv Left cause) heads laid l r f = f
merge_fault options left_text right_text h left right (merge.Csv Right cause) heads laid l r f = f
merge_fault options left_text right_text h left right (merge.Falls Left line) heads laid l r f = record {
  heads = h;
  heads_are = heads;
  laid_out = laid;
  fall = rw (l.columns_are, l.keys_are) at f;
}
merge_fault options left_text right_text h left right (merge.Falls Right line) heads laid l r f = record {
  heads = h;
  heads_are = heads;
  laid_out = laid;
  fall = rw (r.columns_are, r.keys_are) at f;
}
merge_fault options left_text right_text h left right (merge.KeyTwice Left first again) heads laid l r f = record {
  heads = h;
  heads_are = heads;
  laid_out = laid;
  unique = sym l.unique_is ∙ f.0;
  twice = rw (l.columns_are, l.keys_are) at f.1;
}
merge_fault options left_text right_text h left right (merge.KeyTwice Right first again) heads laid l r f = record {
  heads = h;
  heads_are = heads;
  laid_out = laid;
  unique = sym r.unique_is ∙ f.0;
  twice = rw (r.columns_are, r.keys_are) at f.1;
}

-- texts that are merged
pub told_whole : {L R : Type 0} (options : Options) (left_text right_text : List ℕ) (layout : Layout) (left : Cursor L) (right : Cursor R) (report : SortedReport)
    → GoesOver layout.left.items layout.keys.items options.unique left → GoesOver layout.right.items layout.keys.items options.unique right
    → IsMergeOf IsTold options.csv left_text right_text left right report → IsToldOf options left_text right_text layout report
told_whole options left_text right_text layout left right report l r m = record {
  left_rows = m.left_rows;
  right_rows = m.right_rows;
  matching = m.matching;
  left_all = rw (l.columns_are, l.keys_are, l.unique_is) at m.left_all;
  right_all = rw (r.columns_are, r.keys_are, r.unique_is) at m.right_all;
  matched = rw (l.keys_are, r.keys_are) at m.matched;
  told = m.held;
}

-- options that ask for something, and for nothing
pub some_asked : {X : Type 0} (o : Option X) → is_some o ≡ true → o ≡ None → ⊥
some_asked None some none = cc some
some_asked (Some x) some none = cc none

pub none_asked : {X : Type 0} (o : Option X) → is_some o ≡ false → o ≡ None
none_asked None e = refl
none_asked (Some x) e = cc e
