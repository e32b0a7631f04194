-- The pairs that differ, of tables of which one lies after the other.
use Rattle.std.proofs.Common.{◌≡◌, ◌∙◌, ◌+◌, ◌<◌, ◌↔◌, ℕ, List, [], ◌++◌, length, get_or, arith, ap, sym, refl, subst}
use Rattle.std.proofs.lemmas.List.{get_or-append-add, get_or_append_left, length-map, map-append}
use Rattle.std.specs.Prelude.{slice_index}
use Rattle.diff_joins.specs.Laws.{IsJoined, IsJoinedComparison, JoinsComparisons, ShareNoKey, with_later}
use Rattle.diff_joins.proofs.JoinLemmas.{joins_matchings}
use Rattle.diff_joins.proofs.ListingLemmas.{at_first, at_later, count_joined, one_rising, rising_joined}
use Rattle.diff_keys.specs.Matching.{IsMatching}
use Rattle.diff_keys.specs.Rising.{ListsRising}
use Rattle.diff_keys.specs.declared.matching.Matching.{Matching}
use Rattle.diff_tables.specs.Comparison.{ArePairs, IsComparison, IsDifferent}
use Rattle.diff_tables.specs.Keys.{row_key, row_keys}
use Rattle.diff_tables.specs.declared.compare.Comparison.{Comparison}

-- the row that a number names in the whole
named_first : (rows later : List (List (List ℕ))) (xs ys : List ℕ) (k : ℕ) → k < length xs → slice_index xs k < length rows
    → get_or (rows ++ later) (slice_index (with_later (length rows) xs ys) k) [] ≡ get_or rows (slice_index xs k) []
named_first rows later xs ys k within named =
    ap (λ n. get_or (rows ++ later) n []) (at_first (length rows) xs ys k within) ∙ get_or_append_left rows later [] (slice_index xs k) named

named_later : (rows later : List (List (List ℕ))) (xs ys : List ℕ) (k : ℕ) → k < length ys
    → get_or (rows ++ later) (slice_index (with_later (length rows) xs ys) (length xs + k)) [] ≡ get_or later (slice_index ys k) []
named_later rows later xs ys k within =
    ap (λ n. get_or (rows ++ later) n []) (at_later (length rows) xs ys k within) ∙ get_or-append-add rows later (slice_index ys k) []

-- other names of the same two rows
differ_as : (a b c d : List (List ℕ)) → a ≡ c → b ≡ d → (¬ (a ≡ b)) ↔ (¬ (c ≡ d))
differ_as a b c d left right = (λ h e. h (left ∙ (e ∙ sym right)), λ h e. h (sym left ∙ (e ∙ right)))

pub changed_joined : (left right later_left later_right : List (List (List ℕ))) (ls rs us vs es fs : List ℕ) → ArePairs left right ls rs → ArePairs later_left later_right us vs
    → ListsRising (IsDifferent left right ls rs) (length ls) es → ListsRising (IsDifferent later_left later_right us vs) (length us) fs
    → ListsRising (IsDifferent (left ++ later_left) (right ++ later_right) (with_later (length left) ls us) (with_later (length right) rs vs))
    (length (with_later (length left) ls us)) (with_later (length ls) es fs)
changed_joined left right later_left later_right ls rs us vs es fs p q h g =
    rising_joined (IsDifferent left right ls rs) (IsDifferent later_left later_right us vs)
    (IsDifferent (left ++ later_left) (right ++ later_right) (with_later (length left) ls us) (with_later (length right) rs vs))
    (length ls) (length us) (length (with_later (length left) ls us)) es fs h g (count_joined (length left) ls us)
    (λ k within. differ_as _ _ _ _ (named_first left later_left ls us k within (p.left_within k within))
    (named_first right later_right rs vs k (omega (arith, within, p.one_length)) (p.right_within k (omega (arith, within, p.one_length)))))
    (λ k within. differ_as _ _ _ _ (named_later left later_left ls us k within)
    (ap (λ n. get_or (right ++ later_right) (slice_index (with_later (length right) rs vs) (n + k)) []) p.one_length
    ∙ named_later right later_right rs vs k (omega (arith, within, q.one_length))))

-- matched rows are rows of the tables
pub matched_pairs : (columns : List ℕ) (left right : List (List (List ℕ))) (m : Matching) → IsMatching (row_keys columns left) (row_keys columns right) m
    → ArePairs left right m.left_rows.items m.right_rows.items
matched_pairs columns left right m h = record {
  one_length = h.one_length;
  left_within = λ k within. omega (arith, (h.partners k within).left_row, length-map left (row_key columns));
  right_within = λ k within. omega (arith, (h.partners k (omega (arith, within, h.one_length))).right_row, length-map right (row_key columns));
}

-- a matching of the keys of tables one after the other
module _ (columns : List ℕ) (left right later_left later_right : List (List (List ℕ))) (first second whole : Comparison)
    (apart : ShareNoKey (row_keys columns left) (row_keys columns right) (row_keys columns later_left) (row_keys columns later_right))
    (h : IsComparison columns left right first) (g : IsComparison columns later_left later_right second) where
  keys_joined : (rows later : List (List (List ℕ))) → row_keys columns (rows ++ later) ≡ row_keys columns rows ++ row_keys columns later
  keys_joined rows later = map-append (row_key columns) rows later

  count_keys : (rows : List (List (List ℕ))) → length (row_keys columns rows) ≡ length rows
  count_keys rows = length-map rows (row_key columns)

  matching_of : IsMatching (row_keys columns (left ++ later_left)) (row_keys columns (right ++ later_right)) whole.matching
      ↔ IsJoined (length left) (length right) first.matching second.matching whole.matching
  matching_of =
      let both = joins_matchings (row_keys columns left) (row_keys columns right) (row_keys columns later_left) (row_keys columns later_right) first.matching second.matching whole.matching apart h.matching g.matching in (
        λ m. subst (λ n. IsJoined n (length right) first.matching second.matching whole.matching) (count_keys left)
            (subst (λ n. IsJoined (length (row_keys columns left)) n first.matching second.matching whole.matching) (count_keys right)
            (both.0 (subst (λ ks. IsMatching ks (row_keys columns right ++ row_keys columns later_right) whole.matching) (keys_joined left later_left)
            (subst (λ ks. IsMatching (row_keys columns (left ++ later_left)) ks whole.matching) (keys_joined right later_right) m)))),
        λ j. subst (λ ks. IsMatching ks (row_keys columns (right ++ later_right)) whole.matching) (sym (keys_joined left later_left))
            (subst (λ ks. IsMatching (row_keys columns left ++ row_keys columns later_left) ks whole.matching) (sym (keys_joined right later_right))
            (both.1 (subst (λ n. IsJoined n (length (row_keys columns right)) first.matching second.matching whole.matching) (sym (count_keys left))
            (subst (λ n. IsJoined (length left) n first.matching second.matching whole.matching) (sym (count_keys right)) j)))),
      )

  changed_of : ListsRising (IsDifferent (left ++ later_left) (right ++ later_right) (with_later (length left) first.matching.left_rows.items second.matching.left_rows.items)
      (with_later (length right) first.matching.right_rows.items second.matching.right_rows.items))
      (length (with_later (length left) first.matching.left_rows.items second.matching.left_rows.items)) (with_later (length first.matching.left_rows.items) first.changed.items second.changed.items)
  changed_of = changed_joined left right later_left later_right _ _ _ _ _ _ (matched_pairs columns left right first.matching h.matching)
      (matched_pairs columns later_left later_right second.matching g.matching) h.changed g.changed

  pub both_ways : IsComparison columns (left ++ later_left) (right ++ later_right) whole ↔ IsJoinedComparison (length left) (length right) first second whole
  both_ways = (
    λ w.
        let j = matching_of.0 w.matching in
        record {
          matching = j;
          changed = one_rising _ _ _ _ _ (rw (j.left_rows, j.right_rows) at w.changed) changed_of refl;
        },
    λ j. record {
      matching = matching_of.1 j.matching;
      changed = rw (j.matching.left_rows, j.matching.right_rows, j.changed) changed_of;
    },
  )

pub joins_comparisons : JoinsComparisons
joins_comparisons columns left right later_left later_right first second whole apart h g =
    both_ways columns left right later_left later_right first second whole apart h g
