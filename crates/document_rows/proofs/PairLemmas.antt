-- Pairs of rows between whose documents a difference is told, as they are listed.
use Rattle.std.proofs.Common.{◌≡◌, ◌<◌, ◌≤◌, ◌+◌, ◌-◌, ◌∙◌, ℕ, zero, suc, List, [], ◌∷◌, ◌++◌, length, refl, ap, sym, arith, subst, ◌⊎◌, inl, inr}
use Rattle.std.proofs.lemmas.Bool.{cases_lt}
use Rattle.std.proofs.lemmas.List.{get_or_default}
use Rattle.std.proofs.lemmas.List.Elements.{Contains-get_or}
use Rattle.std.specs.List.{Contains, filter}
use Rattle.std.specs.Prelude.{slice_index}
use Rattle.diff_keys.specs.Rising.{ListsRising}
use Rattle.diff_keys.specs.RisingLaws.{none_listed, one_listed, one_passed}
use Rattle.diff_tables.specs.Comparison.{IsComparison, IsDifferent}
use Rattle.diff_tables.proofs.CompareLemmas.{pairs_within}
use Rattle.diff_tables.specs.Tables.{TableRows}
use Rattle.diff_tables.specs.declared.compare.Comparison.{Comparison}
use Rattle.json_changes.proofs.SameLemmas.{none_values}
use Rattle.json_changes.specs.Rules.{Rules, differences_told, is_told}
use Rattle.json_paths.specs.Paths.{Path}
use Rattle.document_rows.specs.Documents.{IsDocument, tree_of}
use Rattle.document_rows.specs.Tables.{HoldsDocuments, IsOtherDocument, line_at}
use Rattle.document_rows.specs.declared.reading.Reading.{Reading}
use Rattle.document_rows.proofs.DocumentLemmas.{row_of, same_line, same_tree, tree_unique}

-- rising numbers rise from each to each later one
rising_to : (rows : List ℕ) → ((k : ℕ) → suc k < length rows → slice_index rows k < slice_index rows (suc k))
    → (i d : ℕ) → suc (i + d) < length rows → slice_index rows i < slice_index rows (suc (i + d))
rising_to rows rising i zero within =
    let same : i + zero ≡ i = omega arith in
    subst (λ n. slice_index rows i < slice_index rows (suc n)) (sym same) (rising i (omega (arith, within)))
rising_to rows rising i (suc d) within =
    let next : i + suc d ≡ suc (i + d) = omega arith in
    let before : slice_index rows i < slice_index rows (suc (i + d)) = rising_to rows rising i d (omega (arith, within)) in
    let last : slice_index rows (suc (i + d)) < slice_index rows (suc (suc (i + d))) = rising (suc (i + d)) (omega (arith, within)) in
    subst (λ n. slice_index rows i < slice_index rows (suc n)) (sym next) (omega (arith, before, last))

-- rising numbers rise between any two places
rises : (rows : List ℕ) → ((k : ℕ) → suc k < length rows → slice_index rows k < slice_index rows (suc k))
    → (i t : ℕ) → i < t → t < length rows → slice_index rows i < slice_index rows t
rises rows rising i t low within =
    let there : suc (i + (t - suc i)) ≡ t = omega arith in
    subst (λ n. slice_index rows i < slice_index rows n) there (rising_to rows rising i (t - suc i) (omega (arith, within, low)))

-- no other number below a greater bound
raised : (P : ℕ → Type 0) (b m : ℕ) (rows : List ℕ) → ListsRising P b rows → b ≤ m → ((k : ℕ) → b ≤ k → k < m → ¬ P k) → ListsRising P m rows
raised P b m rows h more none = record {
  all = λ i. (
    λ there. let was : (i < b) × P i = (h.all i).0 there in (omega (arith, was.0, more), was.1),
    λ is. back i (cases_lt i b) is,
  );
  in_order = h.in_order;
}
  where
    back : (i : ℕ) → (i < b) ⊎ (b ≤ i) → (i < m) × P i → Contains rows i
    back i (inl low) is = (h.all i).1 (low, is.1)
    back i (inr high) is = absurd (none i high is.0 is.1)

-- of the changed places the first i were looked at: the others among them, and all below a bound, are listed
pub record IsProgress (Other : ℕ → Type 0) (n : ℕ) (changed : List ℕ) (i : ℕ) (found : List ℕ) : Type 0 where
  pub bound : ℕ
  pub within : bound ≤ n
  pub listed : ListsRising Other bound found
  pub ahead : (k : ℕ) → i ≤ k → k < length changed → bound ≤ slice_index changed k
  pub behind : (k : ℕ) → k < i → k < length changed → slice_index changed k < bound

pub none_looked_at : (Other : ℕ → Type 0) (n : ℕ) (changed : List ℕ) → IsProgress Other n changed 0 []
none_looked_at Other n changed = record {
  bound = 0;
  within = omega arith;
  listed = none_listed Other;
  ahead = λ k from inside. omega arith;
  behind = λ k low inside. absurd (omega (arith, low));
}

-- a listed number, as one at a place
place_of : (rows : List ℕ) (k : ℕ) → Contains rows k → (t : ℕ) × (t < length rows) × (slice_index rows t ≡ k)
place_of rows k (t, inside, is) = (t, inside, get_or_default rows t 0 k inside ∙ is)

-- the places that differ are listed, and those that are other are among them
pub record AreKinds (Differ Other : ℕ → Type 0) (n : ℕ) (changed : List ℕ) : Type 0 where
  pub listed : ListsRising Differ n changed
  pub differ : (k : ℕ) → k < n → Other k → Differ k

-- a changed place is below the number of pairs
below : {Differ Other : ℕ → Type 0} {n : ℕ} {changed : List ℕ} → AreKinds Differ Other n changed → (i : ℕ) → i < length changed → slice_index changed i < n
below {Differ} {Other} {n} {changed} kinds i inside = ((kinds.listed.all (slice_index changed i)).0 (Contains-get_or changed i 0 inside)).0

-- a place that is another stands in the list
stands : {Differ Other : ℕ → Type 0} {n : ℕ} {changed : List ℕ} → AreKinds Differ Other n changed → (k : ℕ) → k < n → Other k
    → (t : ℕ) × (t < length changed) × (slice_index changed t ≡ k)
stands {Differ} {Other} {n} {changed} kinds k low other = place_of changed k ((kinds.listed.all k).1 (low, kinds.differ k low other))

-- the others below the next changed place are listed
reached : {Differ Other : ℕ → Type 0} {n : ℕ} {changed : List ℕ} → AreKinds Differ Other n changed → (i : ℕ) (found : List ℕ)
    → (h : IsProgress Other n changed i found) → i < length changed → ListsRising Other (slice_index changed i) found
reached {Differ} {Other} {n} {changed} kinds i found h inside = raised Other h.bound (slice_index changed i) found h.listed (h.ahead i (omega arith) inside) none
  where
    at : (k t : ℕ) → h.bound ≤ k → k < slice_index changed i → t < length changed → slice_index changed t ≡ k → (t < i) ⊎ (i ≤ t) → (i < t) ⊎ (t ≤ i) → ⊥
    at k t high low there is (inl early) later = let old : slice_index changed t < h.bound = h.behind t early there in omega (arith, old, high, is)
    at k t high low there is (inr late) (inl later) = let more : slice_index changed i < slice_index changed t = rises changed kinds.listed.in_order i t later there in omega (arith, more, low, is)
    at k t high low there is (inr late) (inr early) =
        let here : t ≡ i = omega arith in
        let same : slice_index changed i ≡ k = subst (λ u. slice_index changed u ≡ k) here is in
        omega (arith, same, low)

    none : (k : ℕ) → h.bound ≤ k → k < slice_index changed i → ¬ Other k
    none k high low other =
        let top : slice_index changed i < n = below kinds i inside in
        let (t, there, is) = stands kinds k (omega (arith, low, top)) other in
        at k t high low there is (cases_lt t i) (cases_lt i t)

-- the bound after the next changed place
moved : {Differ Other : ℕ → Type 0} {n : ℕ} {changed : List ℕ} → AreKinds Differ Other n changed → (i : ℕ) (found more : List ℕ)
    → IsProgress Other n changed i found → i < length changed → ListsRising Other (suc (slice_index changed i)) more → IsProgress Other n changed (i + 1) more
moved {Differ} {Other} {n} {changed} kinds i found more h inside listed = record {
  bound = suc (slice_index changed i);
  within = below kinds i inside;
  listed = listed;
  ahead = λ k from there. rises changed kinds.listed.in_order i k (omega (arith, from)) there;
  behind = λ k low there. at k there (cases_lt k i) (omega (arith, low));
}
  where
    at : (k : ℕ) → k < length changed → (k < i) ⊎ (i ≤ k) → k ≤ i → slice_index changed k < suc (slice_index changed i)
    at k there (inl early) low =
        let old : slice_index changed k < h.bound = h.behind k early there in
        let next : h.bound ≤ slice_index changed i = h.ahead i (omega arith) inside in
        omega (arith, old, next)
    at k there (inr late) low =
        let here : k ≡ i = omega arith in
        subst (λ u. slice_index changed u < suc (slice_index changed i)) (sym here) (omega arith)

-- the next changed place is another
pub one_other : {Differ Other : ℕ → Type 0} {n : ℕ} {changed : List ℕ} → AreKinds Differ Other n changed → (i : ℕ) (found : List ℕ)
    → IsProgress Other n changed i found → i < length changed → Other (slice_index changed i) → IsProgress Other n changed (i + 1) (found ++ slice_index changed i ∷ [])
one_other {Differ} {Other} {n} {changed} kinds i found h inside other =
    moved kinds i found (found ++ slice_index changed i ∷ []) h inside
    (one_listed Other (slice_index changed i) (suc (slice_index changed i)) found (reached kinds i found h inside) other refl)

-- the next changed place is none
pub one_same : {Differ Other : ℕ → Type 0} {n : ℕ} {changed : List ℕ} → AreKinds Differ Other n changed → (i : ℕ) (found : List ℕ)
    → IsProgress Other n changed i found → i < length changed → ¬ Other (slice_index changed i) → IsProgress Other n changed (i + 1) found
one_same {Differ} {Other} {n} {changed} kinds i found h inside same =
    moved kinds i found found h inside
    (one_passed Other (slice_index changed i) (suc (slice_index changed i)) found (reached kinds i found h inside) same refl)

-- all changed places were looked at
pub all_looked_at : {Differ Other : ℕ → Type 0} {n : ℕ} {changed : List ℕ} → AreKinds Differ Other n changed → (i : ℕ) (found : List ℕ)
    → IsProgress Other n changed i found → length changed ≤ i → ListsRising Other n found
all_looked_at {Differ} {Other} {n} {changed} kinds i found h end = raised Other h.bound n found h.listed h.within none
  where
    none : (k : ℕ) → h.bound ≤ k → k < n → ¬ Other k
    none k high low other =
        let (t, there, is) = stands kinds k low other in
        let old : slice_index changed t < h.bound = h.behind t (omega (arith, there, end)) there in
        omega (arith, old, high, is)

-- the rows that a changed place names are rows of the tables
pub record AreNamed (left right : TableRows) (c : Comparison) (p : ℕ) : Type 0 where
  pub left_place : p < length c.matching.left_rows.items
  pub right_place : p < length c.matching.right_rows.items
  pub left_row : slice_index c.matching.left_rows.items p < length left.rows
  pub right_row : slice_index c.matching.right_rows.items p < length right.rows

-- the rows at a place of matched rows are rows of the tables
named : (columns : List ℕ) (left right : TableRows) (c : Comparison) → IsComparison columns left.rows right.rows c
    → (p : ℕ) → p < length c.matching.left_rows.items → AreNamed left right c p
named columns left right c h p inside =
    let pairs = pairs_within columns left.rows right.rows c.matching h.matching in
    record {
      left_place = inside;
      right_place = omega (arith, inside, pairs.one_length);
      left_row = pairs.left_within p inside;
      right_row = pairs.right_within p (omega (arith, inside, pairs.one_length));
    }

-- the rows at a changed place are rows of the tables
pub changed_named : (columns : List ℕ) (left right : TableRows) (c : Comparison) → IsComparison columns left.rows right.rows c
    → (i : ℕ) → i < length c.changed.items → AreNamed left right c (slice_index c.changed.items i)
changed_named columns left right c h i inside =
    named columns left right c h (slice_index c.changed.items i) (((h.changed.all (slice_index c.changed.items i)).0 (Contains-get_or c.changed.items i 0 inside)).0)

-- nothing is told between a document and itself
none_told : (rules : Rules) (reading : Reading) (keys : List Path) (line : List ℕ) → IsDocument reading keys line → differences_told rules (tree_of line) (tree_of line) ≡ []
none_told rules reading keys line d = ap (filter (is_told rules)) (none_values (tree_of line) (tree_of line) (tree_unique reading keys line d) (same_tree reading keys line d))

-- documents between which a difference is told stand in rows that differ
pub kinds_of : (rules : Rules) (columns : List ℕ) (left right : TableRows) (c : Comparison) → HoldsDocuments left → HoldsDocuments right → IsComparison columns left.rows right.rows c
    → AreKinds (IsDifferent left.rows right.rows c.matching.left_rows.items c.matching.right_rows.items) (IsOtherDocument rules left right c.matching.left_rows.items c.matching.right_rows.items)
    (length c.matching.left_rows.items) c.changed.items
kinds_of rules columns left right c from_left from_right h = record {
  listed = h.changed;
  differ = λ k inside other same.
      let rows = named columns left right c h k inside in
      let l = row_of left from_left (slice_index c.matching.left_rows.items k) rows.left_row in
      let r = row_of right from_right (slice_index c.matching.right_rows.items k) rows.right_row in
      let line = same_line left right (slice_index c.matching.left_rows.items k) (slice_index c.matching.right_rows.items k) l r same in
      other (subst (λ t. differences_told rules (tree_of (line_at left (slice_index c.matching.left_rows.items k))) (tree_of t) ≡ []) line
      (none_told rules l.reading l.keys (line_at left (slice_index c.matching.left_rows.items k)) l.document));
}
