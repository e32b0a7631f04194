-- Merges, one step on.
use Rattle.std.proofs.Common.{◌≡◌, ◌∙◌, ◌+◌, ◌<◌, ◌≤◌, ◌^◌, ℕ, suc, Bool, true, false, List, [], ◌∷◌, ◌++◌, Option, Some, None, length, map, arith, ap, sym, refl, subst, inl, inr}
use Rattle.std.proofs.lemmas.List.{length-map, length_push, map-append}
use Rattle.std.specs.Borrow.{Bor}
use Rattle.std.specs.Prelude.{IfSome, IsSome, Vec, option_map}
use Rattle.diff_csv.specs.declared.options.CsvOptions.{CsvOptions}
use Rattle.diff_joins.specs.Merge.{ComesBefore, ComesBehind, IsMerged}
use Rattle.diff_joins.specs.More.{HasAdded, HasPair, HasRemoved}
use Rattle.diff_joins.proofs.MergeLemmas.{merges_added, merges_on, merges_pair, merges_removed}
use Rattle.diff_keys.specs.declared.matching.Matching.{Matching}
use Rattle.diff_merge.specs.Cursors.{IsAlike, IsAt, last_cells, next_key, next_seen}
use Rattle.diff_merge.specs.Merging.{HasFew, IsEmpty, IsMergeAt}
use Rattle.diff_merge.specs.Order.{key_less}
use Rattle.diff_merge.specs.Rows.{Seen, keys_of}
use Rattle.diff_merge.specs.declared.cursor.Cursor.{Cursor}
use Rattle.diff_merge.proofs.OrderLemmas.{key_order}
use Rattle.diff_tables.specs.Keys.{row_key}

-- a vector of these elements
pub with_all : {X Z : Type 0} → Vec X Z → (ws : List X) → length ws < 2 ^ 63 → Vec X Z
with_all v ws small = record { ptr = v.ptr; len = length ws; cap = length ws; alloc = v.alloc; items = ws; ok = (refl, omega arith); small = small }

-- there is a next row
pub is_there : (o : Option ℕ) (k key : List ℕ) → option_map (λ _. k) o ≡ Some key → IsSome o
is_there None k key e = cc e
is_there (Some l) k key e = refl

key_there : (o : Option ℕ) (k key row : List ℕ) → option_map (λ _. k) o ≡ Some key → IfSome o (λ _. k ≡ row) → key ≡ row
key_there None k key row e h = cc e
key_there (Some l) k key row e h = let same : k ≡ key = cc e in sym same ∙ h

-- the keys of the rows that were passed, one row on
keys_on : {R : Type 0} (rem : R → Option (List ℕ)) (options : CsvOptions) (text : List ℕ) (rows : List Seen) (old new : Cursor R) (key : List ℕ) → next_key old ≡ Some key → IsAlike old new
    → IsAt rem options text rows old → keys_of old.keys.now rows ++ key ∷ [] ≡ keys_of new.keys.now (rows ++ next_seen old ∷ [])
keys_on rem options text rows old new key next alike h =
    ap (λ k. keys_of old.keys.now rows ++ k ∷ []) (key_there old.line old.key.items key (row_key old.keys.now (last_cells old)) next h.key)
    ∙ (sym (map-append (λ (s : Seen). row_key old.keys.now s.cells) rows (next_seen old ∷ [])) ∙ ap (λ k. keys_of k (rows ++ next_seen old ∷ [])) (sym (ap (λ (k : Bor (List ℕ)). k.now) alike.keys)))

-- what does not move comes after itself
stays : (o : Option (List ℕ)) → ComesBehind key_less o o
stays None = tt
stays (Some k) = inl refl

-- a matching with one pair more, or one removed or added row
pair_more : (m : Matching) (i j n : ℕ) → n < 2 ^ 62 → HasFew n m → (after : Matching) × HasPair i j m after × HasFew (n + 1) after
unfolding with_all
pair_more m i j n small few =
    let l = length_push m.left_rows.items i in
    let r = length_push m.right_rows.items j in
    let fl = few.left_rows in
    let fr = few.right_rows in
    let fm = few.removed in
    let fa = few.added in (
      record { left_rows = with_all m.left_rows (m.left_rows.items ++ i ∷ []) (omega (arith, l, fl, small)); right_rows = with_all m.right_rows (m.right_rows.items ++ j ∷ []) (omega (arith, r, fr, small)); removed = m.removed; added = m.added },
      record { left_rows = refl; right_rows = refl; removed = refl; added = refl },
      record { left_rows = omega (arith, l, fl); right_rows = omega (arith, r, fr); removed = omega (arith, fm); added = omega (arith, fa) },
    )

removed_more : (m : Matching) (i n : ℕ) → n < 2 ^ 62 → HasFew n m → (after : Matching) × HasRemoved i m after × HasFew (n + 1) after
unfolding with_all
removed_more m i n small few =
    let l = length_push m.removed.items i in
    let fl = few.left_rows in
    let fr = few.right_rows in
    let fm = few.removed in
    let fa = few.added in (
      record { left_rows = m.left_rows; right_rows = m.right_rows; removed = with_all m.removed (m.removed.items ++ i ∷ []) (omega (arith, l, fm, small)); added = m.added },
      record { left_rows = refl; right_rows = refl; removed = refl; added = refl },
      record { left_rows = omega (arith, fl); right_rows = omega (arith, fr); removed = omega (arith, l, fm); added = omega (arith, fa) },
    )

added_more : (m : Matching) (j n : ℕ) → n < 2 ^ 62 → HasFew n m → (after : Matching) × HasAdded j m after × HasFew (n + 1) after
unfolding with_all
added_more m j n small few =
    let l = length_push m.added.items j in
    let fl = few.left_rows in
    let fr = few.right_rows in
    let fm = few.removed in
    let fa = few.added in (
      record { left_rows = m.left_rows; right_rows = m.right_rows; removed = m.removed; added = with_all m.added (m.added.items ++ j ∷ []) (omega (arith, l, fa, small)) },
      record { left_rows = refl; right_rows = refl; removed = refl; added = refl },
      record { left_rows = omega (arith, fl); right_rows = omega (arith, fr); removed = omega (arith, fm); added = omega (arith, l, fa) },
    )

-- the matching of no rows
pub no_rows : {R : Type 0} → Cursor R → Matching
no_rows c = record { left_rows = with_all c.key [] (omega arith); right_rows = with_all c.key [] (omega arith); removed = with_all c.key [] (omega arith); added = with_all c.key [] (omega arith) }

pub no_rows_empty : {R : Type 0} (c : Cursor R) → IsEmpty (no_rows c)
unfolding no_rows with_all
no_rows_empty c = record { left_rows = refl; right_rows = refl; removed = refl; added = refl }

-- a cursor moves on
pub record Moves {R : Type 0} (rem : R → Option (List ℕ)) (old new : Cursor R) : Type 0 where
  pub on : (options : CsvOptions) (text : List ℕ) (rows : List Seen) → IsAt rem options text rows old → IsAt rem options text (rows ++ next_seen old ∷ []) new
  pub rises : ComesBehind key_less (next_key old) (next_key new)
  pub alike : IsAlike old new

module _ {L R S : Type 0} (left_rem : L → Option (List ℕ)) (right_rem : R → Option (List ℕ)) (holds : S → List Seen → List Seen → Matching → Type 0) (options : CsvOptions) (left_text right_text : List ℕ)
    (n : ℕ) (small : n < 2 ^ 62) (left after_left : Cursor L) (right after_right : Cursor R) (sink after_sink : S) (key : List ℕ) (h : IsMergeAt left_rem right_rem holds options left_text right_text n left right sink) where
  -- the next rows are a pair
  pub pair_on : next_key left ≡ Some key → next_key right ≡ Some key → Moves left_rem left after_left → Moves right_rem right after_right
      → ((left_rows right_rows : List Seen) (before after : Matching) → left.number ≡ suc (length left_rows) → right.number ≡ suc (length right_rows) → holds sink left_rows right_rows before
      → HasPair (length left_rows) (length right_rows) before after → holds after_sink (left_rows ++ next_seen left ∷ []) (right_rows ++ next_seen right ∷ []) after)
      → IsMergeAt left_rem right_rem holds options left_text right_text (n + 1) after_left after_right after_sink
  pair_on lk rk lm rm told =
      let more = pair_more h.matching (length h.left_rows) (length h.right_rows) n small h.few in
      let before : IsMerged key_less (keys_of left.keys.now h.left_rows) (keys_of right.keys.now h.right_rows) (Some key) (Some key) h.matching =
      subst (λ o. IsMerged key_less (keys_of left.keys.now h.left_rows) (keys_of right.keys.now h.right_rows) o (Some key) h.matching) lk
      (subst (λ o. IsMerged key_less (keys_of left.keys.now h.left_rows) (keys_of right.keys.now h.right_rows) (next_key left) o h.matching) rk h.merged) in
      let pair : HasPair (length (keys_of left.keys.now h.left_rows)) (length (keys_of right.keys.now h.right_rows)) h.matching more.0 =
      subst (λ a. HasPair a (length (keys_of right.keys.now h.right_rows)) h.matching more.0) (sym (length-map h.left_rows (λ (s : Seen). row_key left.keys.now s.cells)))
      (subst (λ b. HasPair (length h.left_rows) b h.matching more.0) (sym (length-map h.right_rows (λ (s : Seen). row_key right.keys.now s.cells))) more.1) in
      let one = merges_pair key_less _ _ key h.matching more.0 key_order before pair in
      let on = merges_on key_less _ _ (Some key) (Some key) (next_key after_left) (next_key after_right) more.0 key_order one (subst (λ o. ComesBehind key_less o (next_key after_left)) lk lm.rises) (subst (λ o. ComesBehind key_less o (next_key after_right)) rk rm.rises) in
      record {
        left_rows = h.left_rows ++ next_seen left ∷ [];
        right_rows = h.right_rows ++ next_seen right ∷ [];
        matching = more.0;
        left_at = lm.on options left_text h.left_rows h.left_at;
        right_at = rm.on options right_text h.right_rows h.right_at;
        merged = subst (λ ks. IsMerged key_less ks (keys_of after_right.keys.now (h.right_rows ++ next_seen right ∷ [])) (next_key after_left) (next_key after_right) more.0) (keys_on left_rem options left_text h.left_rows left after_left key lk lm.alike h.left_at)
            (subst (λ ks. IsMerged key_less (keys_of left.keys.now h.left_rows ++ key ∷ []) ks (next_key after_left) (next_key after_right) more.0) (keys_on right_rem options right_text h.right_rows right after_right key rk rm.alike h.right_at) on);
        held = told h.left_rows h.right_rows h.matching more.0 h.left_at.number h.right_at.number h.held more.1;
        few = more.2;
      }

  -- the next left row is removed
  pub removed_on : next_key left ≡ Some key → ComesBefore key_less key (next_key right) → Moves left_rem left after_left
      → ((left_rows right_rows : List Seen) (before after : Matching) → left.number ≡ suc (length left_rows) → holds sink left_rows right_rows before
      → HasRemoved (length left_rows) before after → holds after_sink (left_rows ++ next_seen left ∷ []) right_rows after)
      → IsMergeAt left_rem right_rem holds options left_text right_text (n + 1) after_left right after_sink
  removed_on lk lesser lm told =
      let more = removed_more h.matching (length h.left_rows) n small h.few in
      let before : IsMerged key_less (keys_of left.keys.now h.left_rows) (keys_of right.keys.now h.right_rows) (Some key) (next_key right) h.matching =
      subst (λ o. IsMerged key_less (keys_of left.keys.now h.left_rows) (keys_of right.keys.now h.right_rows) o (next_key right) h.matching) lk h.merged in
      let gone : HasRemoved (length (keys_of left.keys.now h.left_rows)) h.matching more.0 =
      subst (λ a. HasRemoved a h.matching more.0) (sym (length-map h.left_rows (λ (s : Seen). row_key left.keys.now s.cells))) more.1 in
      let one = merges_removed key_less _ _ key (next_key right) h.matching more.0 key_order before lesser gone in
      let on = merges_on key_less _ _ (Some key) (next_key right) (next_key after_left) (next_key right) more.0 key_order one (subst (λ o. ComesBehind key_less o (next_key after_left)) lk lm.rises) (stays (next_key right)) in
      record {
        left_rows = h.left_rows ++ next_seen left ∷ [];
        right_rows = h.right_rows;
        matching = more.0;
        left_at = lm.on options left_text h.left_rows h.left_at;
        right_at = h.right_at;
        merged = subst (λ ks. IsMerged key_less ks (keys_of right.keys.now h.right_rows) (next_key after_left) (next_key right) more.0) (keys_on left_rem options left_text h.left_rows left after_left key lk lm.alike h.left_at) on;
        held = told h.left_rows h.right_rows h.matching more.0 h.left_at.number h.held more.1;
        few = more.2;
      }

  -- the next right row is added
  pub added_on : next_key right ≡ Some key → ComesBefore key_less key (next_key left) → Moves right_rem right after_right
      → ((left_rows right_rows : List Seen) (before after : Matching) → right.number ≡ suc (length right_rows) → holds sink left_rows right_rows before
      → HasAdded (length right_rows) before after → holds after_sink left_rows (right_rows ++ next_seen right ∷ []) after)
      → IsMergeAt left_rem right_rem holds options left_text right_text (n + 1) left after_right after_sink
  added_on rk lesser rm told =
      let more = added_more h.matching (length h.right_rows) n small h.few in
      let before : IsMerged key_less (keys_of left.keys.now h.left_rows) (keys_of right.keys.now h.right_rows) (next_key left) (Some key) h.matching =
      subst (λ o. IsMerged key_less (keys_of left.keys.now h.left_rows) (keys_of right.keys.now h.right_rows) (next_key left) o h.matching) rk h.merged in
      let new : HasAdded (length (keys_of right.keys.now h.right_rows)) h.matching more.0 =
      subst (λ a. HasAdded a h.matching more.0) (sym (length-map h.right_rows (λ (s : Seen). row_key right.keys.now s.cells))) more.1 in
      let one = merges_added key_less _ _ key (next_key left) h.matching more.0 key_order before lesser new in
      let on = merges_on key_less _ _ (next_key left) (Some key) (next_key left) (next_key after_right) more.0 key_order one (stays (next_key left)) (subst (λ o. ComesBehind key_less o (next_key after_right)) rk rm.rises) in
      record {
        left_rows = h.left_rows;
        right_rows = h.right_rows ++ next_seen right ∷ [];
        matching = more.0;
        left_at = h.left_at;
        right_at = rm.on options right_text h.right_rows h.right_at;
        merged = subst (λ ks. IsMerged key_less (keys_of left.keys.now h.left_rows) ks (next_key left) (next_key after_right) more.0) (keys_on right_rem options right_text h.right_rows right after_right key rk rm.alike h.right_at) on;
        held = told h.left_rows h.right_rows h.matching more.0 h.right_at.number h.held more.1;
        few = more.2;
      }
