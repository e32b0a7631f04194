-- The ends of merges, and why there are none.
use Rattle.std.proofs.Common.{◌≡◌, ◌∙◌, ◌+◌, ◌<◌, ◌≤◌, ℕ, Bool, true, false, List, [], Option, Some, None, length, map, arith, ap, sym, refl, subst}
use Rattle.std.specs.Borrow.{Bor}
use Rattle.std.specs.Prelude.{option_map}
use Rattle.csv.specs.Records.{fields_of}
use Rattle.diff_columns.specs.declared.error.Side.{Side}
use Rattle.diff_columns.specs.declared.error.Side.TheVariants.{Left, Right}
use Rattle.diff_csv.specs.Given.{GivesOne}
use Rattle.diff_csv.specs.declared.options.CsvOptions.{CsvOptions}
use Rattle.diff_csv.specs.Records.{IsReadFault}
use Rattle.diff_joins.proofs.MergeLemmas.{merges_none}
use Rattle.diff_keys.specs.Matching.{IsAdded, IsMatching, IsRemoved}
use Rattle.diff_keys.specs.Rising.{ListsRising}
use Rattle.diff_keys.specs.RisingLaws.{none_listed}
use Rattle.diff_keys.specs.Unique.{AllDiffer}
use Rattle.diff_keys.specs.declared.matching.Matching.{Matching}
use Rattle.diff_merge.specs.Cursors.{IsAlike, IsAt, next_key}
use Rattle.diff_merge.specs.Faults.{HasFall, HasTwice, IsCursorFault}
use Rattle.diff_merge.specs.Merging.{AreAll, HasFew, IsEmpty, IsMergeAt, IsMergeFault, IsMergeOf, OnSide}
use Rattle.diff_merge.specs.Order.{key_less}
use Rattle.diff_merge.specs.Rows.{Seen, keys_of}
use Rattle.diff_merge.specs.declared.cursor.Cursor.{Cursor}
use Rattle.diff_merge.specs.declared.error.MergeError.{MergeError}
use Rattle.diff_merge.specs.declared.error.MergeError.TheVariants as error
use Rattle.diff_merge.proofs.MergeLemmas.{no_rows, no_rows_empty}
use Rattle.diff_tables.specs.Keys.{cells_at}

pub alike_self : {R : Type 0} (c : Cursor R) → IsAlike c c
alike_self c = record { columns = refl; keys = refl; unique = refl; side = refl }

pub alike_on : {R : Type 0} (a b c : Cursor R) → IsAlike a b → IsAlike b c → IsAlike a c
alike_on a b c h g = record { columns = g.columns ∙ h.columns; keys = g.keys ∙ h.keys; unique = g.unique ∙ h.unique; side = g.side ∙ h.side }

-- no rows are matched
none_match : (m : Matching) → IsEmpty m → IsMatching [] [] m
none_match m e = record {
  one_length = ap length e.left_rows ∙ sym (ap length e.right_rows);
  partners = λ k within. absurd (let none : length m.left_rows.items ≡ 0 = ap length e.left_rows in omega (arith, within, none));
  all_partners = λ i j partners. absurd (let within : i < 0 = partners.left_row in omega (arith, within));
  in_order = λ k within. absurd (let none : length m.left_rows.items ≡ 0 = ap length e.left_rows in omega (arith, within, none));
  removed = subst (λ l. ListsRising (IsRemoved [] []) 0 l) (sym e.removed) (none_listed (IsRemoved [] []));
  added = subst (λ l. ListsRising (IsAdded [] []) 0 l) (sym e.added) (none_listed (IsAdded [] []));
}

none_few : (m : Matching) → IsEmpty m → HasFew 0 m
none_few m e = record {
  left_rows = let none : length m.left_rows.items ≡ 0 = ap length e.left_rows in omega (arith, none);
  right_rows = let none : length m.right_rows.items ≡ 0 = ap length e.right_rows in omega (arith, none);
  removed = let none : length m.removed.items ≡ 0 = ap length e.removed in omega (arith, none);
  added = let none : length m.added.items ≡ 0 = ap length e.added in omega (arith, none);
}

pub few_more : (n : ℕ) (m : Matching) → HasFew n m → HasFew (n + 1) m
few_more n m h =
    let l = h.left_rows in
    let r = h.right_rows in
    let gone = h.removed in
    let new = h.added in
    record { left_rows = omega (arith, l); right_rows = omega (arith, r); removed = omega (arith, gone); added = omega (arith, new) }

-- a step more, in which no row was taken
pub waits : {L R S : Type 0} (left_rem : L → Option (List ℕ)) (right_rem : R → Option (List ℕ)) (holds : S → List Seen → List Seen → Matching → Type 0) (options : CsvOptions) (left_text right_text : List ℕ)
    (n : ℕ) (left : Cursor L) (right : Cursor R) (sink : S) → IsMergeAt left_rem right_rem holds options left_text right_text n left right sink → IsMergeAt left_rem right_rem holds options left_text right_text (n + 1) left right sink
waits left_rem right_rem holds options left_text right_text n left right sink h = record {
  left_rows = h.left_rows;
  right_rows = h.right_rows;
  matching = h.matching;
  left_at = h.left_at;
  right_at = h.right_at;
  merged = h.merged;
  held = h.held;
  few = few_more n h.matching h.few;
}

-- two texts of which no row is passed yet
pub merge_begin : {L R S : Type 0} (left_rem : L → Option (List ℕ)) (right_rem : R → Option (List ℕ)) (holds : S → List Seen → List Seen → Matching → Type 0) (options : CsvOptions) (left_text right_text : List ℕ)
    (left : Cursor L) (right : Cursor R) (sink : S) → IsAt left_rem options left_text [] left → IsAt right_rem options right_text [] right → ((m : Matching) → IsEmpty m → holds sink [] [] m)
    → IsMergeAt left_rem right_rem holds options left_text right_text 0 left right sink
merge_begin left_rem right_rem holds options left_text right_text left right sink la ra held = record {
  left_rows = [];
  right_rows = [];
  matching = no_rows left;
  left_at = la;
  right_at = ra;
  merged = merges_none key_less (next_key left) (next_key right) (no_rows left) (none_match (no_rows left) (no_rows_empty left));
  held = held (no_rows left) (no_rows_empty left);
  few = none_few (no_rows left) (no_rows_empty left);
}

-- a merge goes on
pub record IsMergeProgress {L R S : Type 0} (left_rem : L → Option (List ℕ)) (right_rem : R → Option (List ℕ)) (holds : S → List Seen → List Seen → Matching → Type 0)
    (keeps : S → S → Type 0) (old_left left : Cursor L) (old_right right : Cursor R) (old_sink sink : S) (n : ℕ) : Type 0 where
  pub at : (options : CsvOptions) (left_text right_text : List ℕ) → IsAt left_rem options left_text [] old_left → IsAt right_rem options right_text [] old_right
      → ((m : Matching) → IsEmpty m → holds old_sink [] [] m) → IsMergeAt left_rem right_rem holds options left_text right_text n left right sink
  pub left_alike : IsAlike old_left left
  pub right_alike : IsAlike old_right right
  pub kept : keeps old_sink sink

-- no row is next
none_there : (o : Option ℕ) (k : List ℕ) → option_map (λ _. k) o ≡ None → o ≡ None
none_there None k e = refl
none_there (Some l) k e = cc e

-- a text whose rows are all passed
all_behind : {R : Type 0} (rem : R → Option (List ℕ)) (options : CsvOptions) (text : List ℕ) (rows : List Seen) (old c : Cursor R) → next_key c ≡ None → IsAlike old c → IsAt rem options text rows c
    → AreAll options text old.columns.now old.keys.now old.unique rows
all_behind rem options text rows old c none alike h = record {
  records = h.records;
  all = subst (λ l. GivesOne rem options text c.reader h.records (fields_of c.row.value) l) (none_there c.line c.key.items none) h.given;
  cells = h.cells ∙ ap (λ (l : Bor (List ℕ)). map (cells_at l.now) h.records) alike.columns;
  unique_keys = λ asked. subst (λ (k : Bor (List ℕ)). AllDiffer (keys_of k.now rows)) alike.keys (h.unique (alike.unique ∙ asked)).differ;
}

-- both texts are at their ends
pub merge_end : {L R S : Type 0} (left_rem : L → Option (List ℕ)) (right_rem : R → Option (List ℕ)) (holds : S → List Seen → List Seen → Matching → Type 0) (options : CsvOptions) (left_text right_text : List ℕ)
    (n : ℕ) (old_left left : Cursor L) (old_right right : Cursor R) (sink : S) → IsAlike old_left left → IsAlike old_right right → next_key left ≡ None → next_key right ≡ None
    → IsMergeAt left_rem right_rem holds options left_text right_text n left right sink → IsMergeOf holds options left_text right_text old_left old_right sink
merge_end left_rem right_rem holds options left_text right_text n old_left left old_right right sink la ra ln rn h = record {
  left_rows = h.left_rows;
  right_rows = h.right_rows;
  matching = h.matching;
  left_all = all_behind left_rem options left_text h.left_rows old_left left ln la h.left_at;
  right_all = all_behind right_rem options right_text h.right_rows old_right right rn ra h.right_at;
  matched = subst (λ (k : Bor (List ℕ)). IsMatching (keys_of k.now h.left_rows) (keys_of old_right.keys.now h.right_rows) h.matching) la.keys
      (subst (λ (k : Bor (List ℕ)). IsMatching (keys_of left.keys.now h.left_rows) (keys_of k.now h.right_rows) h.matching) ra.keys h.merged.matching);
  held = h.held;
}

-- the rows of the left text, or of the right one, are not given
pub left_fault : {L R : Type 0} (options : CsvOptions) (left_text right_text : List ℕ) (left : Cursor L) (right : Cursor R) (side : Side) (e : MergeError) → side ≡ Left
    → IsCursorFault side options left_text left.columns.now left.keys.now left.unique e → IsMergeFault options left_text right_text left right e
left_fault options left_text right_text left right side error.Memory is h = tt
left_fault options left_text right_text left right side (error.Csv s cause) is h = rw (h.0, is) h.1
left_fault options left_text right_text left right side (error.Falls s line) is h = rw (h.0, is) h.1
left_fault options left_text right_text left right side (error.KeyTwice s first again) is h = rw (h.0, is) (h.1, h.2)

pub right_fault : {L R : Type 0} (options : CsvOptions) (left_text right_text : List ℕ) (left : Cursor L) (right : Cursor R) (side : Side) (e : MergeError) → side ≡ Right
    → IsCursorFault side options right_text right.columns.now right.keys.now right.unique e → IsMergeFault options left_text right_text left right e
right_fault options left_text right_text left right side error.Memory is h = tt
right_fault options left_text right_text left right side (error.Csv s cause) is h = rw (h.0, is) h.1
right_fault options left_text right_text left right side (error.Falls s line) is h = rw (h.0, is) h.1
right_fault options left_text right_text left right side (error.KeyTwice s first again) is h = rw (h.0, is) (h.1, h.2)

-- the same of a cursor over the same columns
fall_alike : {R : Type 0} (options : CsvOptions) (text : List ℕ) (old c : Cursor R) → IsAlike old c → HasFall options text c.columns.now c.keys.now → HasFall options text old.columns.now old.keys.now
fall_alike options text old c alike h = subst (λ (k : Bor (List ℕ)). HasFall options text old.columns.now k.now) alike.keys (subst (λ (l : Bor (List ℕ)). HasFall options text l.now c.keys.now) alike.columns h)

twice_alike : {R : Type 0} (options : CsvOptions) (text : List ℕ) (old c : Cursor R) → IsAlike old c → HasTwice options text c.columns.now c.keys.now → HasTwice options text old.columns.now old.keys.now
twice_alike options text old c alike h = subst (λ (k : Bor (List ℕ)). HasTwice options text old.columns.now k.now) alike.keys (subst (λ (l : Bor (List ℕ)). HasTwice options text l.now c.keys.now) alike.columns h)

pub fault_alike : {L R : Type 0} (options : CsvOptions) (left_text right_text : List ℕ) (old_left left : Cursor L) (old_right right : Cursor R) (e : MergeError) → IsAlike old_left left → IsAlike old_right right
    → IsMergeFault options left_text right_text left right e → IsMergeFault options left_text right_text old_left old_right e
fault_alike options left_text right_text old_left left old_right right error.Memory la ra h = tt
fault_alike options left_text right_text old_left left old_right right (error.Csv s cause) la ra h = h
fault_alike options left_text right_text old_left left old_right right (error.Falls Left line) la ra h = fall_alike options left_text old_left left la h
fault_alike options left_text right_text old_left left old_right right (error.Falls Right line) la ra h = fall_alike options right_text old_right right ra h
fault_alike options left_text right_text old_left left old_right right (error.KeyTwice Left first again) la ra h = (sym la.unique ∙ h.0, twice_alike options left_text old_left left la h.1)
fault_alike options left_text right_text old_left left old_right right (error.KeyTwice Right first again) la ra h = (sym ra.unique ∙ h.0, twice_alike options right_text old_right right ra h.1)
