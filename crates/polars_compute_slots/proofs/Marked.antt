-- Slots that are set become those of a state to which rows are appended.
use Rattle.std.proofs.Common.{◌≡◌, ◌≢◌, ◌<◌, ◌≤◌, ◌+◌, ◌∙◌, ◌||◌, ℕ, zero, suc, Bool, true, false, List, [], ◌∷◌, length, take, drop, map, get_or, pos, refl, sym, ap, ap₂, subst, arith}
use Rattle.std.specs.Prelude.{ℤ, ◌+ℤ◌, ◌-ℤ◌, ◌≤ℤ◌, slice_set}
use Rattle.std.specs.Int.Signed.{pos-nat_abs, yes_non_neg}
use Rattle.std.specs.List.{range_with_len}
use Rattle.std.specs.Ordering.{int_eq}
use Rattle.std.proofs.Math.Seq.{take-add}
use Rattle.std.proofs.lemmas.Bool.{cases_eq}
use Rattle.std.proofs.lemmas.Bool.Decides.{Decides-int_eq}
use Rattle.std.proofs.lemmas.Int.{ints}
use Rattle.std.proofs.lemmas.List.{get_or-set_same, get_or-set_other, length-set, take_all, take_more}
use Rattle.polars_arrays_flat.specs.ArrayRows.{is_null}
use Rattle.polars_arrays_flat.specs.Row.{Row, Null, Int, Truth, Bytes, Rows, Fields, Entry}
use Rattle.polars_arrays_flat.specs.StoredRows.{row}
use Rattle.polars_compute_slots.specs.Slots.{HasSlot, Marks, place, slot_of, slot_state}
use Rattle.polars_compute_slots.specs.State.{State, appended, is_value}
use Rattle.polars_compute_slots.proofs.States.{appended-append, appended-none, or-false, or-true}
use mathlib.Core.Logic.{⊎_elim}

pub map_range : {X Y : Type 0} (f : X → Y) (g : ℕ → X) (h : ℕ → Y) (a n : ℕ) → ((i : ℕ) → a ≤ i → i < a + n → f (g i) ≡ h i) → map f (map g (range_with_len a n)) ≡ map h (range_with_len a n)
map_range f g h a zero same = refl
map_range {X} {Y} f g h a (suc n) same =
    ap₂ (λ (y : Y) (ys : List Y). y ∷ ys) (same a (omega arith) (omega arith)) (map_range f g h (a + 1) n (λ i from to. same i (omega arith) (omega arith)))

-- ---- one slot

not-true : (b : Bool) → (b ≡ true → ⊥) → b ≡ false
not-true true h = absurd (h refl)
not-true false h = refl

int_eq-yes : (x y : ℤ) → x ≡ y → int_eq x y ≡ true
int_eq-yes x y e = (Decides-int_eq x y).1 e

int_eq-no : (x y : ℤ) → (x ≡ y → ⊥) → int_eq x y ≡ false
int_eq-no x y ne = not-true (int_eq x y) (λ e. ne ((Decides-int_eq x y).0 e))

-- a slot is as far from the first as its value from the least
pub place-is : (least m : ℤ) → least ≤ℤ m → pos (place least m) ≡ m -ℤ least
place-is least m above = let apart : pos 0 ≤ℤ (m -ℤ least) = omega (arith, ints) in pos-nat_abs (m -ℤ least) (yes_non_neg apart)

-- a row has its slot among those of the values and of null
pub slot-below : (least : ℤ) (n : ℕ) (r : Row) → HasSlot least n r → slot_of least n r < n + 1
slot-below least n Null fit = omega arith
slot-below least n (Int m) fit = let far = place-is least m fit.0 in omega (arith, ints, fit.1)
slot-below least n (Truth x) fit = absurd fit
slot-below least n (Bytes x) fit = absurd fit
slot-below least n (Rows x) fit = absurd fit
slot-below least n (Fields x) fit = absurd fit
slot-below least n (Entry x) fit = absurd fit

-- what setting the slot of a row does to slot i of a value
value-marked : (least : ℤ) (n : ℕ) (slots : List Bool) (r : Row) (i : ℕ) → length slots ≡ n + 1 → HasSlot least n r → i < n →
    (get_or slots i false || (is_value (least +ℤ pos i) r || false)) ≡ get_or (slice_set slots (slot_of least n r) true) i false
value-marked least n slots Null i size fit lt =
    let other : i ≢ n = omega arith in
    or-false (get_or slots i false) ∙ sym (get_or-set_other slots n i true false other)
value-marked least n slots (Int m) i size fit lt =
    let far = place-is least m fit.0 in
    ⊎_elim
    (λ (same : i ≡ place least m).
    let value : least +ℤ pos i ≡ m = omega (arith, ints) in
    let there : i < length slots = omega arith in
    ap (λ b. get_or slots i false || (b || false)) (int_eq-yes (least +ℤ pos i) m value)
    ∙ or-true (get_or slots i false)
    ∙ sym (ap (λ k. get_or (slice_set slots k true) i false) (sym same) ∙ get_or-set_same slots i true false there))
    (λ (apart : i ≡ place least m → ⊥).
    let value : least +ℤ pos i ≡ m → ⊥ = λ e. apart (omega (arith, ints)) in
    ap (λ b. get_or slots i false || (b || false)) (int_eq-no (least +ℤ pos i) m value)
    ∙ or-false (get_or slots i false)
    ∙ sym (get_or-set_other slots (place least m) i true false apart))
    (cases_eq i (place least m))
value-marked least n slots (Truth x) i size fit lt = absurd fit
value-marked least n slots (Bytes x) i size fit lt = absurd fit
value-marked least n slots (Rows x) i size fit lt = absurd fit
value-marked least n slots (Fields x) i size fit lt = absurd fit
value-marked least n slots (Entry x) i size fit lt = absurd fit

-- and to the slot of null
null-marked : (least : ℤ) (n : ℕ) (slots : List Bool) (r : Row) → length slots ≡ n + 1 → HasSlot least n r →
    (get_or slots n false || (is_null r || false)) ≡ get_or (slice_set slots (slot_of least n r) true) n false
null-marked least n slots Null size fit =
    let there : n < length slots = omega arith in
    or-true (get_or slots n false) ∙ sym (get_or-set_same slots n true false there)
null-marked least n slots (Int m) size fit =
    let far = place-is least m fit.0 in
    let other : n ≢ place least m = omega (arith, ints, fit.1) in
    or-false (get_or slots n false) ∙ sym (get_or-set_other slots (place least m) n true false other)
null-marked least n slots (Truth x) size fit = absurd fit
null-marked least n slots (Bytes x) size fit = absurd fit
null-marked least n slots (Rows x) size fit = absurd fit
null-marked least n slots (Fields x) size fit = absurd fit
null-marked least n slots (Entry x) size fit = absurd fit

-- a state of its two parts
abbrev made : List (ℤ × Bool) → Bool → State
made values has_null = record { values = values; has_null = has_null }

row-marked : (least : ℤ) (n : ℕ) (slots : List Bool) (r : Row) → length slots ≡ n + 1 → HasSlot least n r →
    appended (r ∷ []) (slot_state least n slots) ≡ slot_state least n (slice_set slots (slot_of least n r) true)
row-marked least n slots r size fit =
    ap₂ made
    (map_range (λ (v : ℤ × Bool). (v.0, v.1 || (is_value v.0 r || false))) (λ i. (least +ℤ pos i, get_or slots i false)) (λ i. (least +ℤ pos i, get_or (slice_set slots (slot_of least n r) true) i false)) 0 n
    (λ i from to. ap (λ (b : Bool). (least +ℤ pos i, b)) (value-marked least n slots r i size fit (omega arith))))
    (null-marked least n slots r size fit)

-- ---- rows, one after another

pub Marks-none : (least : ℤ) (n : ℕ) (slots : List Bool) → Marks least n [] slots slots
Marks-none least n slots = record { size = refl; state = sym (appended-none (slot_state least n slots)) }

-- a row more
pub Marks-more : (least : ℤ) (n : ℕ) (rows : List Row) (before mid after : List Bool) (i k : ℕ) → length before ≡ n + 1 → Marks least n (take i rows) before mid → i < length rows → HasSlot least n (row rows i) →
    k ≡ slot_of least n (row rows i) → after ≡ slice_set mid k true → Marks least n (take (i + 1) rows) before after
Marks-more least n rows before mid after i k size done lt fit slot is =
    record {
      size = ap length is ∙ length-set mid k true ∙ done.size;
      state =
          ap (slot_state least n) (is ∙ ap (λ j. slice_set mid j true) slot)
          ∙ sym (row-marked least n mid (row rows i) (done.size ∙ size) fit)
          ∙ ap (appended (row rows i ∷ [])) done.state
          ∙ sym (appended-append (take i rows) (row rows i ∷ []) (slot_state least n before))
          ∙ ap (λ rs. appended rs (slot_state least n before)) (sym (take_more rows i Null lt));
    }

-- a block of rows more
pub Marks-block : (least : ℤ) (n : ℕ) (rows : List Row) (before mid after : List Bool) (at k : ℕ) → Marks least n (take at rows) before mid → Marks least n (take k (drop at rows)) mid after → Marks least n (take (at + k) rows) before after
Marks-block least n rows before mid after at k done block =
    record {
      size = block.size ∙ done.size;
      state =
          block.state
          ∙ ap (appended (take k (drop at rows))) done.state
          ∙ sym (appended-append (take at rows) (take k (drop at rows)) (slot_state least n before))
          ∙ ap (λ rs. appended rs (slot_state least n before)) (sym (take-add at k rows));
    }

-- past the last row
pub Marks-end : (least : ℤ) (n : ℕ) (rows : List Row) (before after : List Bool) (i : ℕ) → length rows ≤ i → Marks least n (take i rows) before after → Marks least n rows before after
Marks-end least n rows before after i le done = subst (λ rs. Marks least n rs before after) (take_all i rows le) done
