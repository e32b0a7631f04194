-- Rows of views, gathered between places.
use Rattle.std.proofs.Common.{◌≡◌, ℕ, ◌+◌, ◌-◌, ◌≤◌, ◌<◌, true, List, [], ◌∷◌, ◌++◌, length, get_or, take, drop, refl, sym, ap, subst, ◌∙◌, inl, inr, arith}
use Rattle.std.specs.Prelude.{Option, Some, None, ℤ, pos}
use Rattle.std.proofs.lemmas.Bool.{cases_lt}
use Rattle.std.proofs.lemmas.Bool.Decides.{nat_tests}
use Rattle.std.proofs.lemmas.List.{drop-append-le, drop_at, get_or-map, get_or_append_left, get_or_push, length-append, length-drop, length_push, map-append, take-append-le, take_all}
use Rattle.polars_arrays_bytes.specs.OffsetStrings.{Bounds, IsWithin, between, place_at, places, row_count, string_between}
use Rattle.polars_arrays_numbers.specs.Naturals.{natural_of}
use Rattle.polars_arrays_views.specs.Views.{AllZero, InBuffer, IsView, buffer_at, row_bytes, view_buffer, view_len, view_offset}
use Rattle.arrow_parts.specs.Lent.{buffers_in, lent_buffers}
use Rattle.arrow_parts.specs.declared.part.Bytes.{Bytes}
use Rattle.arrow_parts.specs.declared.part.Part.{Part}
use Rattle.arrow_arrays.specs.Views.{AllLead, AreGathered, LeadsToRow, NotNegative, bytes_if, has_row, view_in, viewed_row}

-- ---- one view

row-short : (buffers : List (List ℕ)) (v : List ℕ) → view_len v ≤ 12 → row_bytes buffers v ≡ take (view_len v) (drop 4 v)
unfolding row_bytes
row-short buffers v short = grind (arith, nat_tests)

row-long : (buffers : List (List ℕ)) (v : List ℕ) → 12 < view_len v → row_bytes buffers v ≡ take (view_len v) (drop (view_offset v) (buffer_at buffers (view_buffer v)))
unfolding row_bytes
row-long buffers v long = grind (arith, nat_tests)

-- a row that lies in its view
pub short-row : (buffers : List (List ℕ)) (v row : List ℕ) (len : ℕ) → len ≡ view_len v → len ≤ 12 → row ≡ take len (drop 4 v) → row ≡ row_bytes buffers v
short-row buffers v row len is short same =
    same ∙ ap (λ n. take n (drop 4 v)) is ∙ sym (row-short buffers v (omega arith))

-- a row that lies in a lent buffer
pub lent-row : (buffers : List Bytes) (v : List ℕ) (number at len : ℕ) (d : Bytes) → number < length buffers → 12 < view_len v → number ≡ view_buffer v → at ≡ view_offset v → len ≡ view_len v → take (at + len - at) (drop at (get_or buffers number d).bytes.now) ≡ row_bytes (lent_buffers buffers) v
lent-row buffers v number at len d low long is begin size =
    let count : at + len - at ≡ view_len v = omega arith in
    let buffer : (get_or buffers number d).bytes.now ≡ buffer_at (lent_buffers buffers) (view_buffer v) = sym (get_or-map (λ b. b.bytes.now) buffers number d [] low) ∙ ap (buffer_at (lent_buffers buffers)) is in
    ap (λ n. take n (drop at (get_or buffers number d).bytes.now)) count
    ∙ ap (λ n. take (view_len v) (drop n (get_or buffers number d).bytes.now)) begin
    ∙ ap (λ bytes. take (view_len v) (drop (view_offset v) bytes)) buffer
    ∙ sym (row-long (lent_buffers buffers) v long)

pub short-leads : (buffers : List (List ℕ)) (v : List ℕ) → IsView v → view_len v ≤ 12 → AllZero (drop (4 + view_len v) v) → LeadsToRow buffers v
short-leads buffers v view short zeros = record {
  good = record { view = view; short = λ _. zeros; long = λ long. absurd (omega arith) };
  long = λ long. absurd (omega arith);
}

pub long-leads : (buffers : List (List ℕ)) (v : List ℕ) → IsView v → 12 < view_len v → InBuffer buffers v → NotNegative v → LeadsToRow buffers v
long-leads buffers v view long lies signed = record {
  good = record { view = view; short = λ short. absurd (omega arith); long = λ _. lies };
  long = λ _. signed;
}

-- ---- places

within-more : (n m : ℕ) (place : Option ℕ) → n ≤ m → IsWithin n place → IsWithin m place
within-more n m None le within = absurd within
within-more n m (Some at) le within = omega arith

bounds-more : (n m : ℕ) (from to : Option ℕ) → n ≤ m → Bounds n from to → Bounds m from to
bounds-more n m None to le bounds = absurd bounds
bounds-more n m (Some from) None le bounds = absurd bounds
bounds-more n m (Some from) (Some to) le bounds = (bounds.0, omega (arith, bounds.1))

-- bytes between places that are there stay where they are when others are appended
between-more : (bytes more : List ℕ) (from to : Option ℕ) → Bounds (length bytes) from to → between (bytes ++ more) from to ≡ between bytes from to
between-more bytes more None to bounds = absurd bounds
between-more bytes more (Some from) None bounds = absurd bounds
between-more bytes more (Some from) (Some to) bounds =
    let begin : from ≤ length bytes = omega (arith, bounds.0, bounds.1) in
    let end : to - from ≤ length (drop from bytes) = omega (arith, bounds.0, bounds.1, length-drop from bytes) in
    ap (take (to - from)) (drop-append-le from bytes more begin) ∙ take-append-le (to - from) (drop from bytes) more end

-- what was appended lies past the last place
between-last : (bytes more : List ℕ) → between (bytes ++ more) (Some (length bytes)) (Some (length (bytes ++ more))) ≡ more
between-last bytes more =
    let size : length (bytes ++ more) - length bytes ≡ length more = omega (arith, length-append bytes more) in
    ap (take (length (bytes ++ more) - length bytes)) (drop_at bytes more (length bytes) refl)
    ∙ ap (λ n. take n more) size
    ∙ take_all (length more) more (omega arith)

-- ---- rows

pub none-gathered : (p : Part) → AreGathered p 0 (Some 0 ∷ []) []
none-gathered p = record {
  count = refl;
  last = refl;
  good = record { first = omega arith; rows = λ i low. absurd (omega arith) };
  each = λ i low. absurd (omega arith);
}

row-gathered : (p : Part) (n : ℕ) (all : List (Option ℕ)) (bytes more : List ℕ) → more ≡ bytes_if (has_row p n) (viewed_row p n) → AreGathered p n all bytes → AreGathered p (n + 1) (all ++ Some (length (bytes ++ more)) ∷ []) (bytes ++ more)
row-gathered p n all bytes more new was =
    let end = Some (length (bytes ++ more)) in
    let longer : length bytes ≤ length (bytes ++ more) = omega (arith, length-append bytes more) in
    let before : (k : ℕ) → k ≤ n → place_at (all ++ end ∷ []) k ≡ place_at all k = λ k low. get_or_append_left all (end ∷ []) None k (omega (arith, was.count)) in
    let behind : place_at (all ++ end ∷ []) (n + 1) ≡ end = get_or_push all end None (n + 1) was.count in
    let rows : row_count (all ++ end ∷ []) ≡ n + 1 = omega (arith, was.count, length_push all end) in
    let old_rows : row_count all ≡ n = omega (arith, was.count) in
    record {
      count = length_push all end ∙ ap (λ k. k + 1) was.count;
      last = behind;
      good = record {
        first = subst (IsWithin (length (bytes ++ more))) (sym (before 0 (omega arith))) (within-more (length bytes) (length (bytes ++ more)) (place_at all 0) longer was.good.first);
        rows = λ i low. elim (cases_lt i n) [
          | inl old ↦
              subst (λ from. Bounds (length (bytes ++ more)) from (place_at (all ++ end ∷ []) (i + 1))) (sym (before i (omega arith)))
              (subst (Bounds (length (bytes ++ more)) (place_at all i)) (sym (before (i + 1) (omega arith)))
              (bounds-more (length bytes) (length (bytes ++ more)) (place_at all i) (place_at all (i + 1)) longer (was.good.rows i (omega arith))))
          | inr past ↦
              let here : n ≡ i = omega (arith, low, rows) in
              subst (λ k. Bounds (length (bytes ++ more)) (place_at (all ++ end ∷ []) k) (place_at (all ++ end ∷ []) (k + 1))) here
              (subst (λ from. Bounds (length (bytes ++ more)) from (place_at (all ++ end ∷ []) (n + 1))) (sym (before n (omega arith) ∙ was.last))
              (subst (Bounds (length (bytes ++ more)) (Some (length bytes))) (sym behind) (longer, omega arith)))
        ];
      };
      each = λ i low. elim (cases_lt i n) [
        | inl old ↦
            ap (λ from. between (bytes ++ more) from (place_at (all ++ end ∷ []) (i + 1))) (before i (omega arith))
            ∙ ap (between (bytes ++ more) (place_at all i)) (before (i + 1) (omega arith))
            ∙ between-more bytes more (place_at all i) (place_at all (i + 1)) (was.good.rows i (omega arith))
            ∙ was.each i old
        | inr past ↦
            let here : n ≡ i = omega arith in
            subst (λ k. string_between (all ++ end ∷ []) (bytes ++ more) k ≡ bytes_if (has_row p k) (viewed_row p k)) here
            (ap (λ from. between (bytes ++ more) from (place_at (all ++ end ∷ []) (n + 1))) (before n (omega arith) ∙ was.last)
            ∙ ap (between (bytes ++ more) (Some (length bytes))) behind
            ∙ between-last bytes more
            ∙ new)
      ];
    }

-- one row more, whose end is a number of 64 bits
pub one-gathered : (p : Part) (n : ℕ) (ends new_ends : List ℤ) (bytes new_bytes : List ℕ) (end : ℤ) → new_bytes ≡ bytes ++ bytes_if (has_row p n) (viewed_row p n) → end ≡ pos (length new_bytes) → new_ends ≡ ends ++ end ∷ [] → AreGathered p n (places (λ x. x) ends) bytes → AreGathered p (n + 1) (places (λ x. x) new_ends) new_bytes
one-gathered p n ends new_ends bytes new_bytes end appended is pushed was =
    let more = bytes_if (has_row p n) (viewed_row p n) in
    let placed : places (λ x. x) new_ends ≡ places (λ x. x) ends ++ Some (length (bytes ++ more)) ∷ [] = ap (places (λ x. x)) pushed ∙ map-append natural_of ends (end ∷ []) ∙ ap (λ e. places (λ x. x) ends ++ natural_of e ∷ []) is ∙ ap (λ xs. places (λ x. x) ends ++ Some (length xs) ∷ []) appended in
    subst (λ all. AreGathered p (n + 1) all new_bytes) (sym placed) (subst (AreGathered p (n + 1) (places (λ x. x) ends ++ Some (length (bytes ++ more)) ∷ [])) (sym appended) (row-gathered p n (places (λ x. x) ends) bytes more refl was))

pub lead-more : (p : Part) (n : ℕ) → AllLead p n → (has_row p n ≡ true → LeadsToRow (buffers_in p) (view_in p n)) → AllLead p (n + 1)
lead-more p n was new i low = elim (cases_lt i n) [
  | inl old ↦ was i old
  | inr past ↦
      let here : n ≡ i = omega arith in
      subst (λ k. has_row p k ≡ true → LeadsToRow (buffers_in p) (view_in p k)) here new
]

-- a present row whose view leads to none
pub none-leads : (p : Part) (i : ℕ) → ¬ (LeadsToRow (buffers_in p) (view_in p i)) → i < p.rows → has_row p i ≡ true → ¬ (AllLead p p.rows)
none-leads p i none low present all = none (all i low present)

pub ruleset views = (short-leads, long-leads, none-leads)
