-- Rows that lie in a range.
use Rattle.std.proofs.Common.{◌≡◌, ◌<◌, ◌≤◌, ◌+◌, ◌∙◌, ◌||◌, ℕ, zero, suc, Bool, true, false, List, [], ◌∷◌, length, map, get_or, pos, replicate, refl, sym, ap, ap₂, arith}
use Rattle.std.specs.Prelude.{ℤ, ◌+ℤ◌, ◌≤ℤ◌, ◌<ℤ◌, slice_index_or, Option, Some, None}
use Rattle.std.specs.List.{list_any, range_with_len}
use Rattle.std.specs.Ordering.{int_eq}
use Rattle.std.specs.Simd.Lanes.{zip2}
use Rattle.std.proofs.lemmas.Bool.Decides.{Decides-int_eq, same_from_decides}
use Rattle.std.proofs.lemmas.Int.{ints}
use Rattle.std.proofs.lemmas.List.{get_or-replicate}
use Rattle.std.proofs.lemmas.Simd.{get_or-zip2, zip2-map}
use Rattle.polars_arrays_flat.specs.Row.{Row, Int}
use Rattle.polars_arrays_flat.specs.StoredRows.{kept, masked, number_slots, row, rows_under}
use Rattle.polars_arrays_flat.specs.Validity.{HasBits, is_present}
use Rattle.polars_compute_slots.specs.Slots.{HasSlot, HaveSlots, place, slot_state}
use Rattle.polars_compute_slots.specs.State.{State, are_within, is_within, merged, new_state, numbers_from}
use Rattle.polars_compute_slots.proofs.Marked.{map_range, place-is}
use Rattle.polars_compute_slots.proofs.RowPlaces.{length-masked_slots, length-slots, row-masked_slots, row-slots}
use Rattle.polars_compute_slots.proofs.States.{and-first, and-second}

-- ---- a number in a range

or-cases : (a b : Bool) (P : Type 0) → (a ≡ true → P) → (b ≡ true → P) → (a || b) ≡ true → P
or-cases true b P f g e = f refl
or-cases false b P f g e = g e

or-second : (a b : Bool) → b ≡ true → (a || b) ≡ true
or-second true b e = refl
or-second false b e = e

module _ (least m : ℤ) where
  any-in : (a n : ℕ) → list_any (λ v. int_eq v m) (map (λ i. least +ℤ pos i) (range_with_len a n)) ≡ true → ((least +ℤ pos a) ≤ℤ m) × (m <ℤ (least +ℤ pos (a + n)))
  any-in a zero e = cc
  any-in a (suc n) e =
      or-cases (int_eq (least +ℤ pos a) m) (list_any (λ v. int_eq v m) (map (λ i. least +ℤ pos i) (range_with_len (a + 1) n))) (((least +ℤ pos a) ≤ℤ m) × (m <ℤ (least +ℤ pos (a + suc n))))
      (λ here. let same = (Decides-int_eq (least +ℤ pos a) m).0 here in (omega (arith, ints), omega (arith, ints)))
      (λ there. let later = any-in (a + 1) n there in (omega (arith, ints, later.0), omega (arith, ints, later.1)))
      e

  in-any : (a n k : ℕ) → m ≡ least +ℤ pos (a + k) → k < n → list_any (λ v. int_eq v m) (map (λ i. least +ℤ pos i) (range_with_len a n)) ≡ true
  in-any a zero k is lt = absurd (omega arith)
  in-any a (suc n) zero is lt =
      let same : least +ℤ pos a ≡ m = omega (arith, ints) in
      ap (λ b. b || list_any (λ v. int_eq v m) (map (λ i. least +ℤ pos i) (range_with_len (a + 1) n))) ((Decides-int_eq (least +ℤ pos a) m).1 same)
  in-any a (suc n) (suc k) is lt =
      let next : m ≡ least +ℤ pos (a + 1 + k) = omega (arith, ints) in
      or-second (int_eq (least +ℤ pos a) m) (list_any (λ v. int_eq v m) (map (λ i. least +ℤ pos i) (range_with_len (a + 1) n))) (in-any (a + 1) n k next (omega arith))

within-slot : (least m : ℤ) (n : ℕ) → is_within (numbers_from least n) (Int m) ≡ true → HasSlot least n (Int m)
within-slot least m n e = let r = any-in least m 0 n e in (omega (arith, ints, r.0), omega (arith, ints, r.1))

slot-within : (least m : ℤ) (n : ℕ) → HasSlot least n (Int m) → is_within (numbers_from least n) (Int m) ≡ true
slot-within least m n h =
    let far = place-is least m h.0 in
    in-any least m 0 n (place least m) (omega (arith, ints)) (omega (arith, ints, h.1))

-- a number lies in a range where it has a slot
pub holds-within : (least m : ℤ) (n : ℕ) (r : Bool) → (r ≡ true → HasSlot least n (Int m)) × (HasSlot least n (Int m) → r ≡ true) → r ≡ is_within (numbers_from least n) (Int m)
holds-within least m n r told =
    same_from_decides r (is_within (numbers_from least n) (Int m)) told (within-slot least m n, slot-within least m n)

-- ---- rows that lie in a range have slots

HaveSlots-none : (least : ℤ) (n : ℕ) → HaveSlots least n []
HaveSlots-none least n = record { each = λ i lt. absurd (omega arith) }

cons-each : (least : ℤ) (n : ℕ) (r : Row) (rs : List Row) → HasSlot least n r → HaveSlots least n rs → (i : ℕ) → i < length (r ∷ rs) → HasSlot least n (row (r ∷ rs) i)
cons-each least n r rs first rest zero lt = first
cons-each least n r rs first rest (suc i) lt = rest.each i (omega arith)

HaveSlots-cons : (least : ℤ) (n : ℕ) (r : Row) (rs : List Row) → HasSlot least n r → HaveSlots least n rs → HaveSlots least n (r ∷ rs)
HaveSlots-cons least n r rs first rest = record { each = cons-each least n r rs first rest }

kept-slot : (least m : ℤ) (n : ℕ) (b : Bool) → is_within (numbers_from least n) (kept b (Int m)) ≡ true → HasSlot least n (kept b (Int m))
kept-slot least m n true e = within-slot least m n e
kept-slot least m n false e = tt

module _ {A : Type 0} (value : A → ℤ) (least : ℤ) (n : ℕ) where
  have-masked : (bits : List Bool) (xs : List A) → are_within (numbers_from least n) (masked bits (number_slots value xs)) ≡ true → HaveSlots least n (masked bits (number_slots value xs))
  have-masked [] xs e = HaveSlots-none least n
  have-masked (b ∷ bits) [] e = HaveSlots-none least n
  have-masked (b ∷ bits) (x ∷ xs) e =
      HaveSlots-cons least n (kept b (Int (value x))) (masked bits (number_slots value xs))
      (kept-slot least (value x) n b (and-first (is_within (numbers_from least n) (kept b (Int (value x)))) (are_within (numbers_from least n) (masked bits (number_slots value xs))) e))
      (have-masked bits xs (and-second (is_within (numbers_from least n) (kept b (Int (value x)))) (are_within (numbers_from least n) (masked bits (number_slots value xs))) e))

  have-stored : (xs : List A) → are_within (numbers_from least n) (number_slots value xs) ≡ true → HaveSlots least n (number_slots value xs)
  have-stored [] e = HaveSlots-none least n
  have-stored (x ∷ xs) e =
      HaveSlots-cons least n (Int (value x)) (number_slots value xs)
      (within-slot least (value x) n (and-first (is_within (numbers_from least n) (Int (value x))) (are_within (numbers_from least n) (number_slots value xs)) e))
      (have-stored xs (and-second (is_within (numbers_from least n) (Int (value x))) (are_within (numbers_from least n) (number_slots value xs)) e))

  pub have-rows : (validity : Option (List Bool)) (xs : List A) → are_within (numbers_from least n) (rows_under validity (number_slots value xs)) ≡ true → HaveSlots least n (rows_under validity (number_slots value xs))
  have-rows None xs e = have-stored xs e
  have-rows (Some bits) xs e = have-masked bits xs e

-- a row under a validity
pub row-under : {A : Type 0} (value : A → ℤ) (validity : Option (List Bool)) (xs : List A) (i : ℕ) (x : A) → HasBits (length xs) validity → i < length xs → x ≡ get_or xs i x → row (rows_under validity (number_slots value xs)) i ≡ kept (is_present validity i) (Int (value x))
row-under value None xs i x bits h e = row-slots value xs i x h e
row-under value (Some bits) xs i x long h e = row-masked_slots value xs bits long i x (slice_index_or bits i false) h e refl

pub length-rows-under : {A : Type 0} (value : A → ℤ) (validity : Option (List Bool)) (xs : List A) → HasBits (length xs) validity → length (rows_under validity (number_slots value xs)) ≡ length xs
length-rows-under value None xs bits = length-slots value xs
length-rows-under value (Some bits) xs long = length-masked_slots value xs bits long

-- ---- states

-- a state of its two parts
abbrev made : List (ℤ × Bool) → Bool → State
made values has_null = record { values = values; has_null = has_null }

map_agree : {Y : Type 0} (g h : ℕ → Y) (a n : ℕ) → ((i : ℕ) → a ≤ i → i < a + n → g i ≡ h i) → map g (range_with_len a n) ≡ map h (range_with_len a n)
map_agree g h a zero same = refl
map_agree {Y} g h a (suc n) same =
    ap₂ (λ (y : Y) (ys : List Y). y ∷ ys) (same a (omega arith) (omega arith)) (map_agree g h (a + 1) n (λ i from to. same i (omega arith) (omega arith)))

-- slots none of which is set
pub new-slots : (least : ℤ) (n : ℕ) → slot_state least n (replicate (n + 1) false) ≡ new_state (numbers_from least n)
new-slots least n =
    ap₂ made
    (sym (map_range (λ (v : ℤ). (v, false)) (λ i. least +ℤ pos i) (λ i. (least +ℤ pos i, get_or (replicate (n + 1) false) i false)) 0 n
    (λ i from to. ap (λ (b : Bool). (least +ℤ pos i, b)) (sym (get_or-replicate (n + 1) i false false (omega arith))))))
    (get_or-replicate (n + 1) n false false (omega arith))

-- slots that are joined
pub merged-slots : (least other : ℤ) (n : ℕ) (xs ys : List Bool) → length xs ≡ n + 1 → length ys ≡ n + 1 → slot_state least n (zip2 ◌||◌ xs ys) ≡ merged (slot_state least n xs) (slot_state other n ys)
merged-slots least other n xs ys long as_long =
    ap₂ made
    (map_agree (λ i. (least +ℤ pos i, get_or (zip2 ◌||◌ xs ys) i false)) (λ i. (least +ℤ pos i, get_or xs i false || get_or ys i false)) 0 n
    (λ i from to. ap (λ (b : Bool). (least +ℤ pos i, b)) (get_or-zip2 ◌||◌ xs ys i false false false (omega arith) (omega arith)))
    ∙ sym (zip2-map (λ (v w : ℤ × Bool). (v.0, v.1 || w.1)) (λ i. (least +ℤ pos i, get_or xs i false)) (λ i. (other +ℤ pos i, get_or ys i false)) (range_with_len 0 n)))
    (get_or-zip2 ◌||◌ xs ys n false false false (omega arith) (omega arith))
