-- What a run of lists costs, and what the bits of its items say.
use Rattle.std.proofs.Common.{◌≡◌, ◌≢◌, ◌≤◌, ◌<◌, ◌+◌, ◌-◌, ◌&&◌, ◌||◌, ℕ, zero, suc, Bool, true, false, IsTrue, cond, eqb, List, [], ◌∷◌, ◌++◌, length, length-append, refl, ap, sym, subst, ◌∙◌, arith, add-zero, inl, inr}
use Rattle.std.specs.Prelude.{Option}
use Rattle.std.proofs.lemmas.Bool.Decides.{eqb_tells}
use Rattle.std.proofs.Math.ListN.{get_or-append}
use Rattle.std.proofs.Math.Seq.{get_or-append_seam}
use Rattle.polars_arrays_bytes.specs.OffsetStrings.{AreGood}
use Rattle.polars_arrays_flat.specs.Row.{Row, RowList, Rows}
use Rattle.polars_arrays_flat.specs.StoredRows.{kept}
use Rattle.polars_arrays_flat.specs.Validity.{is_present}
use Rattle.polars_arrays_nested.specs.AnyRows.{row, rows_from}
use Rattle.polars_arrays_nested.specs.GoodParts.{IsGood}
use Rattle.polars_arrays_nested.specs.Lengths.{len_of}
use Rattle.polars_arrays_nested.specs.ListOffsets.{list_count, list_places, offset_at, span}
use Rattle.polars_arrays_nested.specs.Parts.{list_offsets, list_validity, list_values}
use Rattle.polars_arrays_nested.specs.declared.any_array.AnyArray.{AnyArray}
use Rattle.polars_arrays_nested.specs.declared.any_array.AnyArray.{List as Lists}
use Rattle.polars_arrays_nested.specs.declared.list.ListArray.{ListArray}
use Rattle.polars_arrays_nested.specs.declared.list_offsets.ListOffsets.{ListOffsets}
use Rattle.polars_compare_leaves.specs.Sameness.{same, same_rows}
use Rattle.polars_compare_nested.specs.Bits.{AddsRawBits, SameBits}
use Rattle.polars_compare_nested.specs.Runs.{AddsRun, IsRun, Match, all_items, is_match}
use Rattle.polars_compare_nested.specs.Tally.{pair_tally, tally, total_pairs}
use Rattle.polars_compare_nested.specs.TallyLaws.{ListTallyIsOneWindow, ListsAreAdjacent}
use Rattle.polars_compare_nested.specs.declared.runs.ItemRun.{ItemRun}
use Rattle.polars_compare_nested.proofs.Offsets.{offset_rise, offset_step, offset_within}
use Rattle.polars_compare_nested.proofs.TallyAdds.{AddsUp, tally-adds}
use Rattle.polars_compare_nested.proofs.WindowBits.{other_length, part_same}

and_yes : (s t : Bool) → IsTrue (s && t) → IsTrue s × IsTrue t
and_yes true t h = (refl, h)
and_yes false t h = cc

and_no : (s : Bool) → s && true ≡ false → s ≡ false
and_no true h = h
and_no false h = refl

pub eqb_true : (n m : ℕ) → IsTrue (eqb n m) → n ≡ m
eqb_true n m h = elim (eqb_tells n m) [ inl k ↦ k.1 | inr k ↦ cc ]

pub eqb_false : (n m : ℕ) → eqb n m ≡ false → n ≢ m
eqb_false n m h = elim (eqb_tells n m) [ inl k ↦ cc | inr k ↦ k.1 ]

-- list k of a run has equally many items on both sides
abbrev pub Spans : ListOffsets → ℕ → ListOffsets → ℕ → ℕ → Type 0
Spans o a o' b n = (k : ℕ) → k < n → span o (a + k) ≡ span o' (b + k)

pub match_spans : (l r : ListArray) (a b n : ℕ) → Match l a r b n → Spans (list_offsets l) a (list_offsets r) b n
match_spans l r a b n h k low =
    eqb_true _ _ (and_yes (eqb (span (list_offsets l) (a + k)) (span (list_offsets r) (b + k))) _ (h k low)).0

-- the offsets of a run are equally far from its first on both sides
pub run_offsets : (o o' : ListOffsets) (items items' a b n : ℕ) → AreGood items (list_places o) → AreGood items' (list_places o') → a + n ≤ list_count o → b + n ≤ list_count o' → Spans o a o' b n → offset_at o' (b + n) ≡ offset_at o' b + (offset_at o (a + n) - offset_at o a)
run_offsets o o' items items' a b zero h k low low' e = rw (add-zero a, add-zero b) (omega arith)
run_offsets o o' items items' a b (suc n) h k low low' e =
    let before = run_offsets o o' items items' a b n h k (omega arith) (omega arith) (λ i within. e i (omega arith)) in
    let here : span o (a + n) ≡ span o' (b + n) = e n (omega arith) in
    let far = offset_rise items o a n h (omega arith) in
    let step = offset_step items o (a + n) h (omega arith) in
    let step' = offset_step items' o' (b + n) k (omega arith) in
    let same : a + suc n ≡ a + n + 1 = omega arith in
    let same' : b + suc n ≡ b + n + 1 = omega arith in
    rw (same, same') (omega (arith, before, here, far, step, step'))

none_counted : (child : ℕ → ℕ → ℕ → ℕ) → AddsUp child → (x y : ℕ) → child x y 0 ≡ 0
none_counted child add x y =
    let twice : child x y (0 + 0) ≡ child x y 0 + child (x + 0) (y + 0) 0 = add x y 0 0 in
    let twice' : child x y 0 ≡ child x y 0 + child x y 0 = rw (add-zero x, add-zero y) at twice in
    omega arith

empty_cost : (child : ℕ → ℕ → ℕ → ℕ) → AddsUp child → (x y n : ℕ) → IsTrue (eqb n 0) → 0 ≡ child x y n
empty_cost child add x y n h = sym (subst (λ k. child x y k ≡ 0) (sym (eqb_true n 0 h)) (none_counted child add x y))

-- lists that match cost what their items cost
row_cost : (child : ℕ → ℕ → ℕ → ℕ) → AddsUp child → (p q : Bool) (x y n m : ℕ) → IsTrue (eqb n m && (p && q || eqb n 0)) → cond (p && q && eqb n m) (child x y n) 0 ≡ child x y n
row_cost child add true true x y n m h = ap (λ s. cond s (child x y n) 0) (and_yes (eqb n m) true h).0
row_cost child add true false x y n m h = empty_cost child add x y n (and_yes (eqb n m) (eqb n 0) h).1
row_cost child add false true x y n m h = empty_cost child add x y n (and_yes (eqb n m) (eqb n 0) h).1
row_cost child add false false x y n m h = empty_cost child add x y n (and_yes (eqb n m) (eqb n 0) h).1

-- each pair of lists costs what its items cost
abbrev Costs : (ℕ → ℕ → ℕ → ℕ) → ListOffsets → Option (List Bool) → ℕ → ListOffsets → Option (List Bool) → ℕ → ℕ → Type 0
Costs child o v a o' v' b n = (k : ℕ) → k < n → pair_tally child o v o' v' (a + k) (b + k) ≡ child (offset_at o (a + k)) (offset_at o' (b + k)) (span o (a + k))

window_cost : (child : ℕ → ℕ → ℕ → ℕ) (o o' : ListOffsets) (v v' : Option (List Bool)) (items items' a b n : ℕ) → AddsUp child → AreGood items (list_places o) → AreGood items' (list_places o') → a + n ≤ list_count o → b + n ≤ list_count o' → Spans o a o' b n → Costs child o v a o' v' b n → total_pairs (pair_tally child o v o' v') a b n ≡ child (offset_at o a) (offset_at o' b) (offset_at o (a + n) - offset_at o a)
window_cost child o o' v v' items items' a b zero add h k low low' e costs =
    let none : offset_at o a - offset_at o a ≡ 0 = omega arith in
    rw (add-zero a, none) (sym (none_counted child add _ _))
window_cost child o o' v v' items items' a b (suc n) add h k low low' e costs =
    let before = window_cost child o o' v v' items items' a b n add h k (omega arith) (omega arith) (λ i within. e i (omega arith)) (λ i within. costs i (omega arith)) in
    let start : ℕ = offset_at o a in
    let mid : ℕ = offset_at o (a + n) in
    let end : ℕ = offset_at o (a + n + 1) in
    let far : start ≤ mid = offset_rise items o a n h (omega arith) in
    let step : mid ≤ end = offset_step items o (a + n) h (omega arith) in
    let there : offset_at o' (b + n) ≡ offset_at o' b + (mid - start) =
    run_offsets o o' items items' a b n h k (omega arith) (omega arith) (λ i within. e i (omega arith)) in
    let adds : child start (offset_at o' b) ((mid - start) + (end - mid)) ≡ child start (offset_at o' b) (mid - start) + child (start + (mid - start)) (offset_at o' b + (mid - start)) (end - mid) = add start (offset_at o' b) (mid - start) (end - mid) in
    let here : start + (mid - start) ≡ mid = omega arith in
    let all : (mid - start) + (end - mid) ≡ end - start = omega arith in
    let same : a + suc n ≡ a + n + 1 = omega arith in
    let cost = costs n (omega arith) in
    rw (same, before, cost, there) (sym (rw (here, all) at adds))

-- the items of a list end where those of the next one begin
pub lists-adjacent : ListsAreAdjacent
lists-adjacent l good i low = omega (arith, offset_step _ (list_offsets l) i good.0.good low)

-- lists that match one after another cost what one window of their items costs
pub lists-tally : ListTallyIsOneWindow
lists-tally l r h k a b n low low' matching =
    let child : ℕ → ℕ → ℕ → ℕ = λ i j m. tally (list_values l) (list_values r) i j m in
    let add : AddsUp child = λ i j m n. tally-adds (list_values l) (list_values r) i j m n in
    let costs : Costs child (list_offsets l) (list_validity l) a (list_offsets r) (list_validity r) b n =
    λ i within.
    row_cost child add (is_present (list_validity l) (a + i)) (is_present (list_validity r) (b + i)) _ _ (span (list_offsets l) (a + i)) (span (list_offsets r) (b + i)) (matching i within) in
    window_cost child (list_offsets l) (list_offsets r) (list_validity l) (list_validity r) _ _ a b n add h.0.good k.0.good low low' (match_spans l r a b n matching) costs

-- so the lists of a run are compared as one window of their items
pub run_tally : (l r : ListArray) (a b n : ℕ) (run : ItemRun) → IsGood (Lists l) → IsGood (Lists r) → a + n ≤ len_of (Lists l) → b + n ≤ len_of (Lists r) → IsRun l a r b n run → tally (Lists l) (Lists r) a b run.len ≡ tally (list_values l) (list_values r) run.left_start run.right_start run.count
run_tally l r a b n run h k low low' is =
    rw (is.left_is, is.right_is, is.count_is)
    (lists-tally l r h k a b run.len (omega (arith, is.within, low)) (omega (arith, is.within, low')) is.matching)

-- two lists that are both present are the same where their items are
both_kept : (agree : Row → Row → Bool) (p q : Bool) (xs ys : RowList) → IsTrue p → IsTrue q → same agree (kept p (Rows xs)) (kept q (Rows ys)) ≡ same_rows agree xs ys
both_kept agree true true xs ys h k = refl
both_kept agree false q xs ys h k = cc
both_kept agree true false xs ys h k = cc

run_row : (agree : Row → Row → Bool) (x y : AnyArray) (o o' : ListOffsets) (a b n i : ℕ) (items : List Bool) → AreGood (len_of x) (list_places o) → AreGood (len_of y) (list_places o') → a + n ≤ list_count o → b + n ≤ list_count o' → Spans o a o' b n → SameBits agree x (offset_at o a) y (offset_at o' b) (offset_at o (a + n) - offset_at o a) items → i < n → all_items items (list_places o) (offset_at o a) (a + i) ≡ same_rows agree (rows_from (row x) (offset_at o (a + i)) (span o (a + i))) (rows_from (row y) (offset_at o' (b + i)) (span o' (b + i)))
run_row agree x y o o' a b n i items h k low low' e bits within =
    let start : ℕ = offset_at o a in
    let mid : ℕ = offset_at o (a + i) in
    let end : ℕ = offset_at o (a + i + 1) in
    let far : start ≤ mid = offset_rise _ o a i h (omega arith) in
    let step : mid ≤ end = offset_step _ o (a + i) h (omega arith) in
    let rest : end ≤ offset_at o (a + i + 1 + (n - (i + 1))) = offset_rise _ o (a + i + 1) (n - (i + 1)) h (omega arith) in
    let last : a + i + 1 + (n - (i + 1)) ≡ a + n = omega arith in
    let rest' : end ≤ offset_at o (a + n) = rw last at rest in
    let there : offset_at o' b + (mid - start) ≡ offset_at o' (b + i) =
    sym (run_offsets o o' _ _ a b i h k (omega arith) (omega arith) (λ j before. e j (omega arith))) in
    let here : start + (mid - start) ≡ mid = omega arith in
    let part : all_items items (list_places o) start (a + i) ≡ same_rows agree (rows_from (row x) (start + (mid - start)) (span o (a + i))) (rows_from (row y) (offset_at o' b + (mid - start)) (span o (a + i))) =
    part_same agree x y start (offset_at o' b) (offset_at o (a + n) - start) items (mid - start) (span o (a + i)) bits (omega arith) in
    part
    ∙ ap (λ (k : ℕ). same_rows agree (rows_from (row x) k (span o (a + i))) (rows_from (row y) (offset_at o' b + (mid - start)) (span o (a + i)))) here
    ∙ ap (λ (k : ℕ). same_rows agree (rows_from (row x) mid (span o (a + i))) (rows_from (row y) k (span o (a + i)))) there
    ∙ ap (λ (k : ℕ). same_rows agree (rows_from (row x) mid (span o (a + i))) (rows_from (row y) (offset_at o' (b + i)) k)) (e i within)

-- the bits that a run adds are those of its lists
pub run_bits : (agree : Row → Row → Bool) (l r : ListArray) (a b n : ℕ) (run : ItemRun) (items old new : List Bool) → IsGood (Lists l) → IsGood (Lists r) → a + n ≤ len_of (Lists l) → b + n ≤ len_of (Lists r) → IsRun l a r b n run → SameBits agree (list_values l) run.left_start (list_values r) run.right_start run.count items → AddsRun items (list_places (list_offsets l)) a run.len old new → AddsRawBits agree (Lists l) a (Lists r) b run.len old new
run_bits agree l r a b n run items old new h k low low' is bits adds =
    let bits' : SameBits agree (list_values l) (offset_at (list_offsets l) a) (list_values r) (offset_at (list_offsets r) b) (offset_at (list_offsets l) (a + run.len) - offset_at (list_offsets l) a) items =
    rw (is.left_is, is.right_is, is.count_is) at bits in
    record {
      size = adds.size;
      kept = adds.kept;
      at_present = λ i within both.
          adds.added i within
          ∙ run_row agree (list_values l) (list_values r) (list_offsets l) (list_offsets r) a b run.len i items h.0.good k.0.good (omega (arith, is.within, low)) (omega (arith, is.within, low')) (match_spans l r a b run.len is.matching) bits' within
          ∙ sym (both_kept agree (is_present (list_validity l) (a + i)) (is_present (list_validity r) (b + i)) _ _ both.0 both.1);
    }

apart_row : (agree : Row → Row → Bool) (p q : Bool) (f g : ℕ → Row) (x y n m : ℕ) → eqb n m && (p && q || eqb n 0) ≡ false → IsTrue p → IsTrue q → false ≡ same agree (kept p (Rows (rows_from f x n))) (kept q (Rows (rows_from g y m)))
apart_row agree true true f g x y n m h here there =
    sym (other_length agree f x n g y m (eqb_false n m (and_no (eqb n m) h)))
apart_row agree false q f g x y n m h here there = cc
apart_row agree true false f g x y n m h here there = cc

-- two present lists that do not match are not the same
pub apart_bit : (agree : Row → Row → Bool) (l r : ListArray) (i j : ℕ) → is_match l i r j ≡ false → IsTrue (is_present (list_validity l) i) → IsTrue (is_present (list_validity r) j) → false ≡ same agree (row (Lists l) i) (row (Lists r) j)
apart_bit agree l r i j h here there =
    apart_row agree (is_present (list_validity l) i) (is_present (list_validity r) j) (row (list_values l)) (row (list_values r)) _ _ (span (list_offsets l) i) (span (list_offsets r) j) h here there

apart_cost : (p q : Bool) (n m x : ℕ) → eqb n m && (p && q || eqb n 0) ≡ false → cond (p && q && eqb n m) x 0 ≡ 0
apart_cost true true n m x h = ap (λ s. cond s x 0) (and_no (eqb n m) h)
apart_cost true false n m x h = refl
apart_cost false true n m x h = refl
apart_cost false false n m x h = refl

-- lists that do not match are not compared
pub apart_tally : (l r : ListArray) (a b : ℕ) → is_match l a r b ≡ false → tally (Lists l) (Lists r) a b 1 ≡ 0
apart_tally l r a b h =
    let cost = apart_cost (is_present (list_validity l) a) (is_present (list_validity r) b) (span (list_offsets l) a) (span (list_offsets r) b) (tally (list_values l) (list_values r) (offset_at (list_offsets l) a) (offset_at (list_offsets r) b) (span (list_offsets l) a)) h in
    rw (add-zero a, add-zero b) (omega (arith, cost))

-- a bit that is false is added for lists that do not match
pub apart_bits : (agree : Row → Row → Bool) (l r : ListArray) (a b : ℕ) (old : List Bool) → is_match l a r b ≡ false → AddsRawBits agree (Lists l) a (Lists r) b 1 old (old ++ false ∷ [])
apart_bits agree l r a b old h = record {
  size = omega (arith, length-append {A = Bool});
  kept = λ i low. rw get_or-append refl;
  at_present = λ i low both.
      let none : i ≡ 0 = omega arith in
      let here : IsTrue (is_present (list_validity l) a) = rw (none, add-zero a) at both.0 in
      let there : IsTrue (is_present (list_validity r) b) = rw (none, add-zero b) at both.1 in
      rw (none, add-zero (length old), add-zero a, add-zero b)
      (get_or-append_seam old false [] false ∙ apart_bit agree l r a b h here there);
}

-- where not one list matches, the first does not
pub match_none : (l r : ListArray) (a b k : ℕ) → k ≡ 0 → is_match l (a + k) r (b + k) ≡ false → is_match l a r b ≡ false
match_none l r a b k none h =
    let here : is_match l (a + 0) r (b + 0) ≡ false = subst (λ j. is_match l (a + j) r (b + j) ≡ false) none h in
    rw (add-zero a, add-zero b) at here

-- lists that match one after another make a run
pub run_is : (l r : ListArray) (a b n rows : ℕ) (run : ItemRun) → IsGood (Lists l) → IsGood (Lists r) → a + n ≤ len_of (Lists l) → b + n ≤ len_of (Lists r) → 1 ≤ rows → rows ≤ n → Match l a r b rows → run ≡ record { left_start = offset_at (list_offsets l) a; right_start = offset_at (list_offsets r) b; count = offset_at (list_offsets l) (a + rows) - offset_at (list_offsets l) a; len = rows } → IsRun l a r b n run
run_is l r a b n rows run h k low low' some within matching is =
    let rise = offset_rise _ (list_offsets l) a rows h.0.good (omega (arith, low, within)) in
    let far = run_offsets (list_offsets l) (list_offsets r) _ _ a b rows h.0.good k.0.good (omega (arith, low, within)) (omega (arith, low', within)) (match_spans l r a b rows matching) in
    rw is (record {
      some = some;
      within = within;
      matching = matching;
      left_is = refl;
      right_is = refl;
      count_is = refl;
      left_in = omega (arith, rise, offset_within _ (list_offsets l) (a + rows) h.0.good (omega (arith, low, within)));
      right_in = omega (arith, far, offset_within _ (list_offsets r) (b + rows) k.0.good (omega (arith, low', within)));
    })
