-- Words whose bits are set for rows.
use Rattle.std.proofs.Common.{◌≡◌, ◌<◌, ◌≤◌, ◌+◌, ◌∙◌, ◌||◌, ◌++◌, ℕ, Bool, true, false, cond, not, eqb, List, [], ◌∷◌, length, take, drop, pos, count_by, refl, sym, ap, ap₂, subst, arith}
use Rattle.std.specs.Prelude.{ℤ, ◌+ℤ◌, ◌-ℤ◌, ◌≤ℤ◌}
use Rattle.std.specs.Ordering.{int_eq}
use Rattle.std.proofs.Math.Seq.{take-add}
use Rattle.std.proofs.lemmas.Bool.{cases_eq, cases_lt}
use Rattle.std.proofs.lemmas.Bool.Decides.{Decides-int_eq}
use Rattle.std.proofs.lemmas.Int.{ints}
use Rattle.std.proofs.lemmas.List.{take_all, take_more}
use Rattle.std.proofs.lemmas.List.Folds.{list_any-append}
use Rattle.std.proofs.lemmas.List.Recursion.{is_count_by}
use Rattle.polars_arrays_flat.specs.ArrayRows.{is_null, null_total}
use Rattle.polars_arrays_flat.specs.Row.{Row, Null, Int}
use Rattle.polars_arrays_flat.specs.StoredRows.{row}
use Rattle.polars_arrays_words.specs.Bits.{IsWritten, bit_of}
use Rattle.polars_compute_slots.proofs.Marked.{map_range, place-is}
use Rattle.polars_compute_slots.proofs.States.{or-false, or-groups, or-true}
use Rattle.polars_compute_slots.specs.Slots.{HasSlot, place}
use Rattle.polars_compute_slots.specs.State.{State, any_null, appended, holds, is_value}
use Rattle.arrow_unique.specs.Memory.{AreMarked, Holds, state_in}
use mathlib.Core.Logic.{⊎_elim}

-- ---- one row

pub marked-none : (least : ℤ) (n : ℕ) (words : List ℕ) → AreMarked least n [] words words
marked-none least n words = record {
  count = refl;
  seen = λ i lt. sym (or-false (bit_of words i));
  rest = λ p le. refl;
}

-- rows none of which has a value
pub marked-rows : (least : ℤ) (n : ℕ) (rows : List Row) (words : List ℕ) → ((v : ℤ) → holds rows v ≡ false) → AreMarked least n rows words words
marked-rows least n rows words out = record {
  count = refl;
  seen = λ i lt. sym (ap (λ b. bit_of words i || b) (out (least +ℤ pos i)) ∙ or-false (bit_of words i));
  rest = λ p le. refl;
}

not-true : (b : Bool) → (b ≡ true → ⊥) → b ≡ false
not-true true h = absurd (h refl)
not-true false h = refl

number-bit : (least m : ℤ) (n k i : ℕ) (old new : List ℕ) → IsWritten old new k (k + 1) true → least ≤ℤ m → k ≡ place least m → bit_of new i ≡ (bit_of old i || holds (Int m ∷ []) (least +ℤ pos i))
number-bit least m n k i old new w above is =
    let far = place-is least m above in
    let k_is : pos k ≡ m -ℤ least = ap pos is ∙ far in
    ⊎_elim
    (λ (same : i ≡ k).
    let value : least +ℤ pos i ≡ m = omega (arith, ints) in
    w.within i (omega arith) (omega arith)
    ∙ sym (ap (λ b. bit_of old i || (b || false)) ((Decides-int_eq (least +ℤ pos i) m).1 value) ∙ or-true (bit_of old i)))
    (λ (apart : i ≡ k → ⊥).
    let value : least +ℤ pos i ≡ m → ⊥ = λ e. apart (omega (arith, ints)) in
    let stays : bit_of new i ≡ bit_of old i = ⊎_elim (λ before. w.below i before) (λ past. w.above i (omega arith)) (cases_lt i k) in
    stays
    ∙ sym (ap (λ b. bit_of old i || (b || false)) (not-true (int_eq (least +ℤ pos i) m) (λ e. value ((Decides-int_eq (least +ℤ pos i) m).0 e))) ∙ or-false (bit_of old i)))
    (cases_eq i k)

pub marked-number : (least m : ℤ) (n k : ℕ) (old new : List ℕ) → IsWritten old new k (k + 1) true → HasSlot least n (Int m) → k ≡ place least m → AreMarked least n (Int m ∷ []) old new
marked-number least m n k old new w fit is =
    let far = place-is least m fit.0 in
    let k_is : pos k ≡ m -ℤ least = ap pos is ∙ far in
    record {
      count = w.count;
      seen = λ i lt. number-bit least m n k i old new w fit.0 is;
      rest = λ p le. w.above p (omega (arith, ints, fit.1));
    }

-- ---- rows, one after another

-- rows that have the values of others, and of one row more
pub marked-then : (least : ℤ) (n : ℕ) (rows more : List Row) (r : Row) (old mid new : List ℕ) → AreMarked least n rows old mid → AreMarked least n (r ∷ []) mid new → ((v : ℤ) → holds more v ≡ (holds rows v || is_value v r)) → AreMarked least n more old new
marked-then least n rows more r old mid new before one is =
    record {
      count = one.count ∙ before.count;
      seen = λ j low.
          let v = least +ℤ pos j in
          one.seen j low
          ∙ ap₂ ◌||◌ (before.seen j low) (or-false (is_value v r))
          ∙ sym (or-groups (bit_of old j) (holds rows v) (is_value v r))
          ∙ ap (λ b. bit_of old j || b) (sym (is v));
      rest = λ p le. one.rest p le ∙ before.rest p le;
    }

-- a block of rows more
pub marked-block : (least : ℤ) (n : ℕ) (rows : List Row) (old mid new : List ℕ) (at k : ℕ) → AreMarked least n (take at rows) old mid → AreMarked least n (take k (drop at rows)) mid new → AreMarked least n (take (at + k) rows) old new
marked-block least n rows old mid new at k before block =
    record {
      count = block.count ∙ before.count;
      seen = λ j low.
          let v = least +ℤ pos j in
          block.seen j low
          ∙ ap (λ b. b || holds (take k (drop at rows)) v) (before.seen j low)
          ∙ sym (or-groups (bit_of old j) (holds (take at rows) v) (holds (take k (drop at rows)) v))
          ∙ ap (λ b. bit_of old j || b) (sym (ap (λ (rs : List Row). holds rs v) (take-add at k rows) ∙ list_any-append (is_value v) (take at rows) (take k (drop at rows))));
      rest = λ p le. block.rest p le ∙ before.rest p le;
    }

pub marked-more : (least : ℤ) (n : ℕ) (rows : List Row) (r : Row) (old mid new : List ℕ) (i : ℕ) → AreMarked least n (take i rows) old mid → AreMarked least n (r ∷ []) mid new → i < length rows → row rows i ≡ r → AreMarked least n (take (i + 1) rows) old new
marked-more least n rows r old mid new i before one lt is =
    let next : take (i + 1) rows ≡ take i rows ++ r ∷ [] = take_more rows i Null lt ∙ ap (λ x. take i rows ++ x ∷ []) is in
    record {
      count = one.count ∙ before.count;
      seen = λ j low.
          one.seen j low
          ∙ ap (λ b. b || holds (r ∷ []) (least +ℤ pos j)) (before.seen j low)
          ∙ sym (or-groups (bit_of old j) (holds (take i rows) (least +ℤ pos j)) (holds (r ∷ []) (least +ℤ pos j)))
          ∙ ap (λ b. bit_of old j || b) (sym (ap (λ (rs : List Row). holds rs (least +ℤ pos j)) next ∙ list_any-append (is_value (least +ℤ pos j)) (take i rows) (r ∷ [])));
      rest = λ p le. one.rest p le ∙ before.rest p le;
    }

pub marked-end : (least : ℤ) (n : ℕ) (rows : List Row) (old new : List ℕ) (i : ℕ) → length rows ≤ i → AreMarked least n (take i rows) old new → AreMarked least n rows old new
marked-end least n rows old new i le done = subst (λ (rs : List Row). AreMarked least n rs old new) (take_all i rows le) done

-- ---- whether a row is null

any_null-count : (rows : List Row) → (null_total rows ≡ 0 → any_null rows ≡ false) × (0 < null_total rows → any_null rows ≡ true)
any_null-count [] = (λ e. refl, λ lt. absurd (omega arith))
any_null-count (r ∷ rows) = one (is_null r) (count_by is_null rows) (any_null rows) (count_by is_null (r ∷ rows)) (cons r rows) (any_null-count rows)
  where
    cons : (x : Row) (xs : List Row) → count_by is_null (x ∷ xs) ≡ cond (is_null x) (1 + count_by is_null xs) (count_by is_null xs)
    cons x xs = sym (is_count_by F is_null refl (λ y ys. refl) (x ∷ xs)) ∙ ap (λ k. cond (is_null x) (1 + k) k) (is_count_by F is_null refl (λ y ys. refl) xs)
      where
        F : List Row → ℕ
        F [] = 0
        F (y ∷ ys) = cond (is_null y) (1 + F ys) (F ys)

    one : (b : Bool) (k : ℕ) (any : Bool) (total : ℕ) → total ≡ cond b (1 + k) k → (k ≡ 0 → any ≡ false) × (0 < k → any ≡ true) → (total ≡ 0 → (b || any) ≡ false) × (0 < total → (b || any) ≡ true)
    one true k any total e h = (λ z. absurd (omega arith), λ lt. refl)
    one false k any total e h = (λ z. h.0 (omega arith), λ lt. h.1 (omega arith))

-- ---- states

-- a state of its two parts
abbrev pub made : List (ℤ × Bool) → Bool → State
made values has_null = record { values = values; has_null = has_null }

holds-appended : (least : ℤ) (n : ℕ) (rows : List Row) (old new : List ℕ) (flag flag' : ℕ) → AreMarked least n rows old new → not (eqb flag' 0) ≡ (not (eqb flag 0) || any_null rows) → Holds least n old new flag' (appended rows (state_in least n old flag))
holds-appended least n rows old new flag flag' m e =
    record {
      state =
          ap₂ made
          (sym (map_range (λ (v : ℤ × Bool). (v.0, v.1 || holds rows v.0)) (λ i. (least +ℤ pos i, bit_of old i)) (λ i. (least +ℤ pos i, bit_of new i)) 0 n
          (λ i from to. ap (λ (b : Bool). (least +ℤ pos i, b)) (sym (m.seen i (omega arith))))))
          e;
      rest = m.rest;
    }

-- the flag is set where a row is null
pub holds-some : (least : ℤ) (n : ℕ) (rows : List Row) (old new : List ℕ) (flag nulls : ℕ) → AreMarked least n rows old new → nulls ≡ null_total rows → 0 < nulls → Holds least n old new 1 (appended rows (state_in least n old flag))
holds-some least n rows old new flag nulls m is lt =
    holds-appended least n rows old new flag 1 m
    (sym (ap (λ b. not (eqb flag 0) || b) ((any_null-count rows).1 (omega arith)) ∙ or-true (not (eqb flag 0))))

-- and stays where none is
pub holds-none : (least : ℤ) (n : ℕ) (rows : List Row) (old new : List ℕ) (flag nulls : ℕ) → AreMarked least n rows old new → nulls ≡ null_total rows → (0 < nulls → ⊥) → Holds least n old new flag (appended rows (state_in least n old flag))
holds-none least n rows old new flag nulls m is none =
    holds-appended least n rows old new flag flag m
    (sym (ap (λ b. not (eqb flag 0) || b) ((any_null-count rows).0 (omega arith)) ∙ or-false (not (eqb flag 0))))
