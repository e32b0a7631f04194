-- What a report was told, one row more.
use Rattle.std.proofs.Common.{◌≡◌, ◌∙◌, ◌<◌, ◌≤◌, ◌+◌, ◌⊎◌, ◌↔◌, ℕ, suc, Bool, true, false, not, cond, List, [], ◌∷◌, ◌++◌, None, length, map, get_or, take, arith, ap, sym, subst, refl, inl, inr}
use Rattle.std.proofs.Math.Seq.{take-append_seam}
use Rattle.std.proofs.lemmas.Bool.{cases_lt}
use Rattle.std.proofs.lemmas.List.{get_or_append_left, get_or_push, length_push, map-append, take_all}
use Rattle.std.proofs.lemmas.Slice.Eq.{bytes_eq-Decides}
use Rattle.std.specs.List.{count_by, range_with_len}
use Rattle.std.specs.Prelude.{slice_index}
use Rattle.std.specs.Str.{bytes_eq}
use Rattle.diff_joins.specs.More.{HasPair}
use Rattle.diff_keys.specs.Rising.{ListsRising}
use Rattle.diff_keys.specs.RisingLaws.{listed_as, one_listed, one_passed}
use Rattle.diff_keys.specs.declared.matching.Matching.{Matching}
use Rattle.diff_merge.specs.Rows.{IsNext, Seen, all_cells, cells_of, seen_of}
use Rattle.diff_merge.specs.declared.row.Row.{Row}
use Rattle.diff_report.proofs.CountLemmas.{counts_more}
use Rattle.diff_report.specs.Counts.{AddsWhere, column_counts}
use Rattle.diff_report.specs.Pairs.{differ_at, is_apart}
use Rattle.diff_report.specs.Sides.{naming_of, row_of}
use Rattle.diff_report.specs.declared.sides.Side.{Side}
use Rattle.diff_report.specs.declared.sides.Sides.{Sides}
use Rattle.diff_single.specs.Rows.{HasRowAt}
use Rattle.diff_tables.specs.Comparison.{ArePairs, IsDifferent}
use Rattle.diff_sorted.specs.Lines.{HasLines}
use Rattle.diff_sorted.specs.Told.{Begins, HasRows, no_row, seen_at}
use Rattle.diff_sorted.specs.declared.lines.Lines.{Lines}

all_push : (rows : List Seen) (r : Seen) → all_cells (rows ++ r ∷ []) ≡ all_cells rows ++ r.cells ∷ []
all_push rows r = map-append (λ (s : Seen). s.cells) rows (r ∷ [])

all_count : (rows : List Seen) → length (all_cells rows) ≡ length rows
all_count [] = refl
all_count (r ∷ rows) = ap suc (all_count rows)

-- the rows before the last one
pub fewer : (side : Side) (rows : List Seen) (r : Seen) → HasRows side (rows ++ r ∷ []) → HasRows side rows
fewer side rows r h = λ i within.
    let same : seen_at (rows ++ r ∷ []) i ≡ seen_at rows i = get_or_append_left rows (r ∷ []) no_row i within in
    let pushed = length_push rows r in
    subst (λ (t : Seen). HasRowAt side i t.cells (suc i) t.line) same (h i (omega (arith, within, pushed)))

-- the last one
last_row : (side : Side) (rows : List Seen) (r : Seen) → HasRows side (rows ++ r ∷ []) → HasRowAt side (length rows) r.cells (suc (length rows)) r.line
last_row side rows r h =
    let pushed = length_push rows r in
    let same : seen_at (rows ++ r ∷ []) (length rows) ≡ r = get_or_push rows r no_row (length rows) refl in
    subst (λ (t : Seen). HasRowAt side (length rows) t.cells (suc (length rows)) t.line) same (h (length rows) (omega (arith, pushed)))

pub row_next : (side : Side) (rows : List Seen) (r : Row) (i : ℕ) → IsNext rows r → HasRows side (rows ++ seen_of r ∷ []) → i ≡ length rows → HasRowAt side i (cells_of r) r.number r.line
row_next side rows r i next h is =
    subst (λ n. HasRowAt side i (cells_of r) n r.line) (sym next) (subst (λ n. HasRowAt side n (cells_of r) (suc (length rows)) r.line) (sym is) (last_row side rows (seen_of r) h))

-- lines, one more
pub lines_after : {X : Type 0} (f : X → List ℕ) (xs ys : List X) (x : X) (limit : ℕ) (l : Lines) → ys ≡ xs ++ x ∷ [] → HasLines limit (map f xs ++ f x ∷ []) l → HasLines limit (map f ys) l
lines_after f xs ys x limit l is h = subst (λ zs. HasLines limit (map f zs) l) (sym is) (subst (λ ls. HasLines limit ls l) (sym (map-append f xs (x ∷ []))) h)

pub lines_same : {X : Type 0} (f : X → List ℕ) (xs ys : List X) (limit : ℕ) (l : Lines) → ys ≡ xs → HasLines limit (map f xs) l → HasLines limit (map f ys) l
lines_same f xs ys limit l is h = subst (λ zs. HasLines limit (map f zs) l) (sym is) h

-- a matching that begins with one pair more begins with those before it
pub begins_pair : (i j : ℕ) (before after whole : Matching) → HasPair i j before after → Begins after whole → Begins before whole
begins_pair i j before after whole p b = record {
  left = λ k within.
      let pushed = length_push before.left_rows.items i in
      let size : length after.left_rows.items ≡ length (before.left_rows.items ++ i ∷ []) = ap length p.left_rows in
      b.left k (omega (arith, within, pushed, size)) ∙ (ap (λ l. slice_index l k) p.left_rows ∙ get_or_append_left before.left_rows.items (i ∷ []) 0 k within);
  right = λ k within.
      let pushed = length_push before.right_rows.items j in
      let size : length after.right_rows.items ≡ length (before.right_rows.items ++ j ∷ []) = ap length p.right_rows in
      b.right k (omega (arith, within, pushed, size)) ∙ (ap (λ l. slice_index l k) p.right_rows ∙ get_or_append_left before.right_rows.items (j ∷ []) 0 k within);
}

pub begins_same : (before after whole : Matching) → after.left_rows.items ≡ before.left_rows.items → after.right_rows.items ≡ before.right_rows.items → Begins after whole → Begins before whole
begins_same before after whole left right b = record {
  left = λ k within. b.left k (let size : length after.left_rows.items ≡ length before.left_rows.items = ap length left in omega (arith, within, size)) ∙ ap (λ l. slice_index l k) left;
  right = λ k within. b.right k (let size : length after.right_rows.items ≡ length before.right_rows.items = ap length right in omega (arith, within, size)) ∙ ap (λ l. slice_index l k) right;
}

-- the pair that is one more
pub place_left : (i j : ℕ) (before after whole : Matching) → HasPair i j before after → Begins after whole → slice_index whole.left_rows.items (length before.left_rows.items) ≡ i
place_left i j before after whole p b =
    let pushed = length_push before.left_rows.items i in
    let size : length after.left_rows.items ≡ length (before.left_rows.items ++ i ∷ []) = ap length p.left_rows in
    b.left (length before.left_rows.items) (omega (arith, pushed, size))
    ∙ (ap (λ l. slice_index l (length before.left_rows.items)) p.left_rows ∙ get_or_push before.left_rows.items i 0 (length before.left_rows.items) refl)

pub place_right : (i j : ℕ) (before after whole : Matching) → length before.left_rows.items ≡ length before.right_rows.items → HasPair i j before after → Begins after whole
    → slice_index whole.right_rows.items (length before.left_rows.items) ≡ j
place_right i j before after whole same p b =
    let pushed = length_push before.right_rows.items j in
    let size : length after.right_rows.items ≡ length (before.right_rows.items ++ j ∷ []) = ap length p.right_rows in
    b.right (length before.left_rows.items) (omega (arith, pushed, size, same))
    ∙ (ap (λ l. slice_index l (length before.left_rows.items)) p.right_rows ∙ get_or_push before.right_rows.items j 0 (length before.left_rows.items) (sym same))

-- numbers of rows, one more
within_push : (rows : List (List (List ℕ))) (x : List (List ℕ)) (n : ℕ) (ns : List ℕ) → n ≡ length rows → ((k : ℕ) → k < length ns → slice_index ns k < length rows)
    → (k : ℕ) → k < length (ns ++ n ∷ []) → slice_index (ns ++ n ∷ []) k < length (rows ++ x ∷ [])
within_push rows x n ns is within k below = at (cases_lt k (length ns))
  where
    more : length (rows ++ x ∷ []) ≡ length rows + 1
    more = length_push rows x

    at : (k < length ns) ⊎ (length ns ≤ k) → slice_index (ns ++ n ∷ []) k < length (rows ++ x ∷ [])
    at (inl before) =
        let same : slice_index (ns ++ n ∷ []) k ≡ slice_index ns k = get_or_append_left ns (n ∷ []) 0 k before in
        let old = within k before in
        omega (arith, same, old, more)
    at (inr behind) =
        let pushed = length_push ns n in
        let last : slice_index (ns ++ n ∷ []) k ≡ n = get_or_push ns n 0 k (omega (arith, behind, below, pushed)) in
        omega (arith, last, is, more)

pairs_push : (left right : List (List (List ℕ))) (x y : List (List ℕ)) (i j : ℕ) (ls rs : List ℕ) → i ≡ length left → j ≡ length right → ArePairs left right ls rs
    → ArePairs (left ++ x ∷ []) (right ++ y ∷ []) (ls ++ i ∷ []) (rs ++ j ∷ [])
pairs_push left right x y i j ls rs is js p = record {
  one_length = let l = length_push ls i in let r = length_push rs j in let same = p.one_length in omega (arith, l, r, same);
  left_within = within_push left x i ls is p.left_within;
  right_within = within_push right y j rs js p.right_within;
}

wider : (rows : List (List (List ℕ))) (x : List (List ℕ)) (ns : List ℕ) → ((k : ℕ) → k < length ns → slice_index ns k < length rows) → (k : ℕ) → k < length ns → slice_index ns k < length (rows ++ x ∷ [])
wider rows x ns within k below = let old = within k below in let more = length_push rows x in omega (arith, old, more)

pub pairs_pair : (left_rows right_rows : List Seen) (a b : Seen) (before after : Matching) → HasPair (length left_rows) (length right_rows) before after
    → ArePairs (all_cells left_rows) (all_cells right_rows) before.left_rows.items before.right_rows.items
    → ArePairs (all_cells (left_rows ++ a ∷ [])) (all_cells (right_rows ++ b ∷ [])) after.left_rows.items after.right_rows.items
pairs_pair left_rows right_rows a b before after p h =
    rw (all_push left_rows a, all_push right_rows b, p.left_rows, p.right_rows)
    (pairs_push (all_cells left_rows) (all_cells right_rows) a.cells b.cells (length left_rows) (length right_rows) before.left_rows.items before.right_rows.items (sym (all_count left_rows)) (sym (all_count right_rows)) h)

pub pairs_removed : (left_rows right_rows : List Seen) (a : Seen) (before after : Matching) → after.left_rows.items ≡ before.left_rows.items → after.right_rows.items ≡ before.right_rows.items
    → ArePairs (all_cells left_rows) (all_cells right_rows) before.left_rows.items before.right_rows.items
    → ArePairs (all_cells (left_rows ++ a ∷ [])) (all_cells right_rows) after.left_rows.items after.right_rows.items
pairs_removed left_rows right_rows a before after left right h =
    rw (all_push left_rows a, left, right) (record { one_length = h.one_length; left_within = wider (all_cells left_rows) a.cells before.left_rows.items h.left_within; right_within = h.right_within })

pub pairs_added : (left_rows right_rows : List Seen) (b : Seen) (before after : Matching) → after.left_rows.items ≡ before.left_rows.items → after.right_rows.items ≡ before.right_rows.items
    → ArePairs (all_cells left_rows) (all_cells right_rows) before.left_rows.items before.right_rows.items
    → ArePairs (all_cells left_rows) (all_cells (right_rows ++ b ∷ [])) after.left_rows.items after.right_rows.items
pairs_added left_rows right_rows b before after left right h =
    rw (all_push right_rows b, left, right) (record { one_length = h.one_length; left_within = h.left_within; right_within = wider (all_cells right_rows) b.cells before.right_rows.items h.right_within })

-- other names of the same two rows
differ_as : (a b c d : List (List ℕ)) → a ≡ c → b ≡ d → (¬ (a ≡ b)) ↔ (¬ (c ≡ d))
differ_as a b c d left right = (λ h e. h (left ∙ (e ∙ sym right)), λ h e. h (sym left ∙ (e ∙ right)))

named : (rows : List (List (List ℕ))) (x : List (List ℕ)) (ns : List ℕ) (k : ℕ) → slice_index ns k < length rows → get_or rows (slice_index ns k) [] ≡ get_or (rows ++ x ∷ []) (slice_index ns k) []
named rows x ns k within = sym (get_or_append_left rows (x ∷ []) [] (slice_index ns k) within)

named_push : (rows : List (List (List ℕ))) (x : List (List ℕ)) (n : ℕ) (ns : List ℕ) (k : ℕ) → k < length ns → slice_index ns k < length rows
    → get_or rows (slice_index ns k) [] ≡ get_or (rows ++ x ∷ []) (slice_index (ns ++ n ∷ []) k) []
named_push rows x n ns k below within = named rows x ns k within ∙ ap (λ m. get_or (rows ++ x ∷ []) m []) (sym (get_or_append_left ns (n ∷ []) 0 k below))

named_last : (rows : List (List (List ℕ))) (x : List (List ℕ)) (n : ℕ) (ns : List ℕ) (k : ℕ) → n ≡ length rows → k ≡ length ns → get_or (rows ++ x ∷ []) (slice_index (ns ++ n ∷ []) k) [] ≡ x
named_last rows x n ns k is last = ap (λ m. get_or (rows ++ x ∷ []) m []) (get_or_push ns n 0 k (sym last)) ∙ get_or_push rows x [] n (sym is)

module _ (left right : List (List (List ℕ))) (x y : List (List ℕ)) (i j : ℕ) (ls rs places : List ℕ) (is : i ≡ length left) (js : j ≡ length right) (p : ArePairs left right ls rs)
    (h : ListsRising (IsDifferent left right ls rs) (length ls) places) where
  still : ListsRising (IsDifferent (left ++ x ∷ []) (right ++ y ∷ []) (ls ++ i ∷ []) (rs ++ j ∷ [])) (length ls) places
  still = listed_as (IsDifferent left right ls rs) (IsDifferent (left ++ x ∷ []) (right ++ y ∷ []) (ls ++ i ∷ []) (rs ++ j ∷ [])) (length ls) places
      (λ k within. let same = p.one_length in let other : k < length rs = omega (arith, within, same) in
      differ_as _ _ _ _ (named_push left x i ls k within (p.left_within k within)) (named_push right y j rs k other (p.right_within k other))) h

  there_left : get_or (left ++ x ∷ []) (slice_index (ls ++ i ∷ []) (length ls)) [] ≡ x
  there_left = named_last left x i ls (length ls) is refl

  there_right : get_or (right ++ y ∷ []) (slice_index (rs ++ j ∷ []) (length ls)) [] ≡ y
  there_right = named_last right y j rs (length ls) js p.one_length

  size : length (ls ++ i ∷ []) ≡ suc (length ls)
  size = let pushed = length_push ls i in omega (arith, pushed)

  pub listed_more : ¬ (x ≡ y) → ListsRising (IsDifferent (left ++ x ∷ []) (right ++ y ∷ []) (ls ++ i ∷ []) (rs ++ j ∷ [])) (length (ls ++ i ∷ [])) (places ++ length ls ∷ [])
  listed_more apart = one_listed (IsDifferent (left ++ x ∷ []) (right ++ y ∷ []) (ls ++ i ∷ []) (rs ++ j ∷ [])) (length ls) (length (ls ++ i ∷ [])) places still
      ((differ_as x y _ _ (sym there_left) (sym there_right)).0 apart) size

  pub listed_on : x ≡ y → ListsRising (IsDifferent (left ++ x ∷ []) (right ++ y ∷ []) (ls ++ i ∷ []) (rs ++ j ∷ [])) (length (ls ++ i ∷ [])) places
  listed_on same = one_passed (IsDifferent (left ++ x ∷ []) (right ++ y ∷ []) (ls ++ i ∷ []) (rs ++ j ∷ [])) (length ls) (length (ls ++ i ∷ [])) places still
      (λ apart. apart (there_left ∙ (same ∙ sym there_right))) size

pub listed_changed : (left_rows right_rows : List Seen) (a b : Seen) (before after : Matching) (places : List ℕ) → HasPair (length left_rows) (length right_rows) before after
    → ArePairs (all_cells left_rows) (all_cells right_rows) before.left_rows.items before.right_rows.items
    → ListsRising (IsDifferent (all_cells left_rows) (all_cells right_rows) before.left_rows.items before.right_rows.items) (length before.left_rows.items) places → ¬ (a.cells ≡ b.cells)
    → ListsRising (IsDifferent (all_cells (left_rows ++ a ∷ [])) (all_cells (right_rows ++ b ∷ [])) after.left_rows.items after.right_rows.items) (length after.left_rows.items) (places ++ length before.left_rows.items ∷ [])
listed_changed left_rows right_rows a b before after places p pairs h apart =
    rw (all_push left_rows a, all_push right_rows b, p.left_rows, p.right_rows)
    (listed_more (all_cells left_rows) (all_cells right_rows) a.cells b.cells (length left_rows) (length right_rows) before.left_rows.items before.right_rows.items places (sym (all_count left_rows)) (sym (all_count right_rows)) pairs h apart)

pub listed_same : (left_rows right_rows : List Seen) (a b : Seen) (before after : Matching) (places : List ℕ) → HasPair (length left_rows) (length right_rows) before after
    → ArePairs (all_cells left_rows) (all_cells right_rows) before.left_rows.items before.right_rows.items
    → ListsRising (IsDifferent (all_cells left_rows) (all_cells right_rows) before.left_rows.items before.right_rows.items) (length before.left_rows.items) places → a.cells ≡ b.cells
    → ListsRising (IsDifferent (all_cells (left_rows ++ a ∷ [])) (all_cells (right_rows ++ b ∷ [])) after.left_rows.items after.right_rows.items) (length after.left_rows.items) places
listed_same left_rows right_rows a b before after places p pairs h same =
    rw (all_push left_rows a, all_push right_rows b, p.left_rows, p.right_rows)
    (listed_on (all_cells left_rows) (all_cells right_rows) a.cells b.cells (length left_rows) (length right_rows) before.left_rows.items before.right_rows.items places (sym (all_count left_rows)) (sym (all_count right_rows)) pairs h same)

pub listed_removed : (left_rows right_rows : List Seen) (a : Seen) (before after : Matching) (places : List ℕ) → after.left_rows.items ≡ before.left_rows.items → after.right_rows.items ≡ before.right_rows.items
    → ArePairs (all_cells left_rows) (all_cells right_rows) before.left_rows.items before.right_rows.items
    → ListsRising (IsDifferent (all_cells left_rows) (all_cells right_rows) before.left_rows.items before.right_rows.items) (length before.left_rows.items) places
    → ListsRising (IsDifferent (all_cells (left_rows ++ a ∷ [])) (all_cells right_rows) after.left_rows.items after.right_rows.items) (length after.left_rows.items) places
listed_removed left_rows right_rows a before after places left right pairs h =
    rw (all_push left_rows a, left, right)
    (listed_as (IsDifferent (all_cells left_rows) (all_cells right_rows) before.left_rows.items before.right_rows.items)
    (IsDifferent (all_cells left_rows ++ a.cells ∷ []) (all_cells right_rows) before.left_rows.items before.right_rows.items) (length before.left_rows.items) places
    (λ k within. differ_as _ _ _ _ (named (all_cells left_rows) a.cells before.left_rows.items k (pairs.left_within k within)) refl) h)

pub listed_added : (left_rows right_rows : List Seen) (b : Seen) (before after : Matching) (places : List ℕ) → after.left_rows.items ≡ before.left_rows.items → after.right_rows.items ≡ before.right_rows.items
    → ArePairs (all_cells left_rows) (all_cells right_rows) before.left_rows.items before.right_rows.items
    → ListsRising (IsDifferent (all_cells left_rows) (all_cells right_rows) before.left_rows.items before.right_rows.items) (length before.left_rows.items) places
    → ListsRising (IsDifferent (all_cells left_rows) (all_cells (right_rows ++ b ∷ [])) after.left_rows.items after.right_rows.items) (length after.left_rows.items) places
listed_added left_rows right_rows b before after places left right pairs h =
    rw (all_push right_rows b, left, right)
    (listed_as (IsDifferent (all_cells left_rows) (all_cells right_rows) before.left_rows.items before.right_rows.items)
    (IsDifferent (all_cells left_rows) (all_cells right_rows ++ b.cells ∷ []) before.left_rows.items before.right_rows.items) (length before.left_rows.items) places
    (λ k within. let same = pairs.one_length in differ_as _ _ _ _ refl (named (all_cells right_rows) b.cells before.right_rows.items k (pairs.right_within k (omega (arith, within, same))))) h)

-- the counts of the columns, one pair more
pub counts_after : (s : Sides) (whole : Matching) (places : List ℕ) (k : ℕ) (left right : List (List ℕ)) (old new : List ℕ) → s.comparables ≡ None
    → row_of s.left (slice_index whole.left_rows.items k) ≡ left → row_of s.right (slice_index whole.right_rows.items k) ≡ right
    → old ≡ column_counts s whole places → AddsWhere (differ_at left right) old new → new ≡ column_counts s whole (places ++ k ∷ [])
counts_after s whole places k left right old new none a b before adds =
    let pushed = length_push places k in
    let last : get_or (places ++ k ∷ []) (length places) 0 ≡ k = get_or_push places k 0 (length places) refl in
    let was : old ≡ map (λ column. count_by (λ n. is_apart s (slice_index whole.left_rows.items n) (slice_index whole.right_rows.items n) column) (take (length places) (places ++ k ∷ []))) (range_with_len 0 (length (naming_of s).names)) =
    rw (take-append_seam places (k ∷ [])) before in
    let more = counts_more (λ column n. is_apart s (slice_index whole.left_rows.items n) (slice_index whole.right_rows.items n) column) (length (naming_of s).names) (places ++ k ∷ []) (length places) 0 old new (omega (arith, pushed)) was
    (rw (last, none, a, b) adds) in
    rw (take_all (length places + 1) (places ++ k ∷ []) (omega (arith, pushed))) at more

turned_off : (b : Bool) → b ≡ true → not b ≡ false
turned_off true e = refl
turned_off false e = cc e

same_list : (xs ys : List ℕ) → length xs ≡ length ys → ((k : ℕ) → k < length xs → get_or xs k 0 ≡ get_or ys k 0) → xs ≡ ys
same_list [] [] e h = refl
same_list [] (y ∷ ys) e h = absurd (omega (arith, e))
same_list (x ∷ xs) [] e h = absurd (omega (arith, e))
same_list (x ∷ xs) (y ∷ ys) e h =
    ap (λ z. z ∷ xs) (h 0 (omega arith)) ∙ ap (λ zs. y ∷ zs) (same_list xs ys (omega (arith, e)) (λ k within. h (suc k) (omega (arith, within))))

-- where two rows are the same no count is more
pub counts_same : (left right : List (List ℕ)) (old new : List ℕ) → left ≡ right → AddsWhere (differ_at left right) old new → new ≡ old
counts_same left right old new same adds = same_list new old adds.as_many each
  where
    each : (k : ℕ) → k < length new → get_or new k 0 ≡ get_or old k 0
    each k within =
        let many = adds.as_many in
        let decides = bytes_eq-Decides (get_or left k []) (get_or right k []) in
        let never : differ_at left right k ≡ false = turned_off (bytes_eq (get_or left k []) (get_or right k [])) (decides.1 (ap (λ cells. get_or cells k []) same)) in
        let none : slice_index old k + cond (differ_at left right k) 1 0 ≡ slice_index old k + 0 = ap (λ b. slice_index old k + cond b 1 0) never in
        let last : slice_index old k + 0 ≡ slice_index old k = omega arith in
        adds.each k (omega (arith, within, many)) ∙ (none ∙ last)
