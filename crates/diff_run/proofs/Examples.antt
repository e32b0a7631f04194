-- Worked examples of the definitions: the texts "id,n", "7,1", "8,2" and "n,id", "3,8" of three and two lines, other columns, and numbers.
use Rattle.std.specs.Borrow.{Bor}
use Rattle.std.proofs.Common.{◌<◌, zero, suc, ap, arith, get_or, subst}
use Rattle.std.specs.Prelude.{◌≡◌, List, ℕ, [], ◌∷◌, None, Some, Contains, false, true, codes, refl}
use Rattle.diff_columns.specs.Names.{IsMissing}
use Rattle.diff_columns.specs.declared.error.ColumnError.TheVariants.{NoKey}
use Rattle.diff_columns.specs.declared.error.Side.TheVariants.{Left, Right}
use Rattle.diff_columns.specs.declared.layout.Layout.{Layout}
use Rattle.diff_csv.specs.RecordLaws.{one_reading}
use Rattle.diff_csv.specs.Records.{AreRecordsOf}
use Rattle.diff_csv.specs.Records as csv
use Rattle.diff_numbers.specs.Cells.{comparable}
use Rattle.diff_run.specs.Chosen.{nothing_left}
use Rattle.diff_run.specs.Comparables.{rows_by}
use Rattle.diff_run.specs.Faults.{IsRunFault}
use Rattle.diff_run.specs.Lone.{alone_lines, lone_line}
use Rattle.diff_run.specs.Run.{columns_text, outcome_of}
use Rattle.diff_run.specs.declared.error.RunError.TheVariants as error
use Rattle.diff_words.specs.declared.formats.Format.TheVariants.{Text}
use Rattle.diff_run.specs.declared.options.Options.{Options}
use Rattle.diff_keys.specs.declared.outcome.Outcome.TheVariants.{Same, Different}
use Rattle.diff_tables.specs.declared.compare.Comparison.{Comparison}
use Rattle.diff_words.specs.Words.{word_text}
use Rattle.diff_run.proofs.ExampleReport.{commas, options}

-- what a comparison of them finds: the one pair of partners differs, and left row 0 is removed
record IsTheirs (c : Comparison) : Type 0 where
  removed : c.matching.removed.items ≡ 0 ∷ []
  added : c.matching.added.items ≡ []
  changed : c.changed.items ≡ 0 ∷ []

-- the tables differ, whatever their columns
two-differ : (o : Options) (layout : Layout) (c : Comparison) → IsTheirs c → outcome_of o layout c ≡ Different
two-differ o layout c found = rw found.changed refl

-- without a difference, and without a column that one of them has alone, they are the same
none-differ : (o : Options) (layout : Layout) (c : Comparison) → c.changed.items ≡ [] → c.matching.removed.items ≡ [] → c.matching.added.items ≡ []
    → o.common ≡ false → layout.left_alone.items ≡ [] → layout.right_alone.items ≡ [] → outcome_of o layout c ≡ Same
none-differ o layout c changed removed added common left right = rw (changed, removed, added, common, left, right) refl

-- with such a column they differ, unless these are left out
column-differs : (o : Options) (layout : Layout) (c : Comparison) → o.common ≡ false → layout.left_alone.items ≡ 1 ∷ []
    → c.changed.items ≡ [] → c.matching.removed.items ≡ [] → c.matching.added.items ≡ [] → outcome_of o layout c ≡ Different
column-differs o layout c common left changed removed added = rw (changed, removed, added, common, left) refl

line-of-column : alone_lines Text Left (codes "old.csv") (codes "id" ∷ codes "note" ∷ []) (1 ∷ []) ≡ codes "! column note only in old.csv\n"
unfolding lone_line word_text
line-of-column = refl

-- columns of one text alone are left out where that is asked for
no-columns : (o : Options) (layout : Layout) (left right : List (List ℕ)) → o.common ≡ true → columns_text o (codes "old.csv") (codes "new.csv") left right layout ≡ []
no-columns o layout left right common = rw common refl

-- of two tables with other columns none is left, where those that one table has alone are left out
none-left : (o : Options) (layout : Layout) → o.common ≡ true → layout.left.items ≡ [] → nothing_left o (codes "id" ∷ []) (codes "day" ∷ []) layout ≡ true
none-left o layout common left = rw (common, left) refl

-- where the key alone is in both, and the other columns are left out, none is left
key-left : (o : Options) (layout : Layout) → o.common ≡ true → layout.left.items ≡ 0 ∷ [] → layout.keys.items ≡ 0 ∷ []
    → layout.left_alone.items ≡ 1 ∷ [] → nothing_left o (codes "id" ∷ codes "city" ∷ []) (codes "id" ∷ codes "day" ∷ []) layout ≡ true
key-left o layout common left keys alone = rw (common, left, keys, alone) refl

-- tables without columns have none that could be left
none-there : (o : Options) (layout : Layout) → nothing_left o [] [] layout ≡ false
none-there o layout = refl

-- what is lent
abbrev lent : {A : Type 0} → A → Bor A
lent x = record { ref_ptr = (0, 0); now = x }

-- where numbers count in all columns but id, they are compared by what they are worth
by-worth : rows_by None (Some (lent (lent (codes "id") ∷ []))) (codes "id" ∷ codes "n" ∷ []) ((codes "7.0" ∷ codes "1.50" ∷ []) ∷ [])
    ≡ (codes "7.0" ∷ comparable true (codes "1.50") ∷ []) ∷ []
by-worth = refl

-- where they do not count, rows are compared by themselves
by-themselves : rows_by None None (codes "id" ∷ codes "n" ∷ []) ((codes "7.0" ∷ codes "1.50" ∷ []) ∷ []) ≡ (codes "7.0" ∷ codes "1.50" ∷ []) ∷ []
by-themselves = refl

-- no column of day, n is named id
no-id : ¬ (Contains (codes "day" ∷ codes "n" ∷ []) (codes "id"))
no-id there = at there.0 there.1 there.2
  where
    at : (k : ℕ) → k < 2 → ¬ (get_or (codes "day" ∷ codes "n" ∷ []) k (codes "id") ≡ codes "id")
    at zero within e = let first : 100 ≡ 105 = ap (λ name. get_or name 0 0) e in omega (arith, first)
    at (suc zero) within e = let first : 110 ≡ 105 = ap (λ name. get_or name 0 0) e in omega (arith, first)
    at (suc (suc k)) within e = omega (arith, within)

-- so a text with these columns is not compared by id
no-key : AreRecordsOf commas (codes "day,n\n3,8\n") ((codes "day" ∷ codes "n" ∷ []) ∷ (codes "3" ∷ codes "8" ∷ []) ∷ []) → IsRunFault options (codes "id,n\n7,1\n") (codes "day,n\n3,8\n") (error.Columns (NoKey Right 0))
no-key day left right left_all right_all =
    let records = one_reading _ _ _ ((codes "day" ∷ codes "n" ∷ []) ∷ (codes "3" ∷ codes "8" ∷ []) ∷ []) right day right_all in
    subst (λ rows. IsMissing (csv.names_of true rows) (codes "id" ∷ []) 0) records (omega arith, no-id)
