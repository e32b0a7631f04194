-- When all values of a state were seen, and how many rows are read by then.
use Rattle.std.proofs.Common.{◌≡◌, ◌<◌, ◌≤◌, ◌+◌, ◌*◌, ◌/◌, ◌∙◌, ◌&&◌, ℕ, zero, suc, Bool, true, false, cond, not, List, [], ◌∷◌, length, take, drop, map, get_or, pos, count_by, min, refl, sym, ap, subst, arith}
use Rattle.std.specs.Prelude.{ℤ, ◌+ℤ◌}
use Rattle.std.specs.List.{list_all, range_with_len}
use Rattle.std.proofs.Math.Numerals.{add-one}
use Rattle.std.proofs.lemmas.List.{length-take-le, take-append-drop}
use Rattle.std.proofs.lemmas.List.Folds.{list_all-append}
use Rattle.std.proofs.lemmas.List.FromFn.{map-range_with_len_more}
use Rattle.std.proofs.lemmas.List.Recursion.{is_count_by}
use Rattle.std.proofs.lemmas.List.Sums.{count_by-le-length}
use Rattle.polars_arrays_flat.specs.Row.{Row}
use Rattle.polars_arrays_flat.specs.StoredRows.{masked, number_slots}
use Rattle.polars_compute_slots.specs.Slots.{Marks, slot_state}
use Rattle.polars_compute_slots.specs.State.{State, any_null, appended, fullpoint, is_full, rows_read, whole_blocks}
use Rattle.polars_compute_slots.proofs.States.{appended-append, appended-full, fullpoint-gt, fullpoint-le}
use Rattle.polars_compute_slots.proofs.WordBits.{count-more}

and-true : (b : Bool) → (b && true) ≡ b
and-true true = refl
and-true false = refl

pub count-le : (slots : List Bool) (n : ℕ) → n ≤ length slots → count_by (λ b. b) (take n slots) ≤ n
count-le slots n h = omega (arith, count_by-le-length (λ (b : Bool). b) (take n slots), length-take-le n slots h)

-- a value more
step : (full b : Bool) (c n : ℕ) → c ≤ n → (full ≡ true → c ≡ n) × (c ≡ n → full ≡ true) → ((full && b) ≡ true → c + cond b 1 0 ≡ n + 1) × (c + cond b 1 0 ≡ n + 1 → (full && b) ≡ true)
step true true c n le d = (λ e. omega (arith, d.0 refl), λ e. refl)
step true false c n le d = (λ e. cc, λ e. absurd (omega arith))
step false true c n le d = (λ e. cc, λ e. d.1 (omega arith))
step false false c n le d = (λ e. cc, λ e. absurd (omega arith))

module _ (least : ℤ) (slots : List Bool) where
  abbrev value_at : ℕ → ℤ × Bool
  value_at i = (least +ℤ pos i, get_or slots i false)

  all-more : (n : ℕ) → list_all (λ (v : ℤ × Bool). v.1) (map value_at (range_with_len 0 (n + 1))) ≡ (list_all (λ (v : ℤ × Bool). v.1) (map value_at (range_with_len 0 n)) && get_or slots n false)
  all-more n =
      ap (list_all (λ (v : ℤ × Bool). v.1)) (map-range_with_len_more value_at 0 n n (omega arith))
      ∙ list_all-append (λ (v : ℤ × Bool). v.1) (map value_at (range_with_len 0 n)) (value_at n ∷ [])
      ∙ ap (λ b. list_all (λ (v : ℤ × Bool). v.1) (map value_at (range_with_len 0 n)) && b) (and-true (get_or slots n false))

  -- all values were seen exactly where so many slots are set
  pub full-is : (n : ℕ) → n ≤ length slots → (is_full (slot_state least n slots) ≡ true → count_by (λ b. b) (take n slots) ≡ n) × (count_by (λ b. b) (take n slots) ≡ n → is_full (slot_state least n slots) ≡ true)
  full-is zero h = (λ e. refl, λ e. refl)
  full-is (suc n) h =
      let before = full-is n (omega arith) in
      let now = step (is_full (slot_state least n slots)) (get_or slots n false) (count_by (λ b. b) (take n slots)) n (count-le slots n (omega arith)) before in
      let P : ℕ → Type 0 = λ k. (is_full (slot_state least k slots) ≡ true → count_by (λ b. b) (take k slots) ≡ k) × (count_by (λ b. b) (take k slots) ≡ k → is_full (slot_state least k slots) ≡ true) in
      let more = count-more slots n (omega arith) in
      subst P (add-one n) (λ e. more ∙ now.0 (sym (all-more n) ∙ e), λ e. all-more n ∙ now.1 (sym more ∙ e))

  pub is-full : (n count : ℕ) → length slots ≡ n + 1 → count ≡ count_by (λ b. b) (take n slots) → n ≤ count → is_full (slot_state least n slots) ≡ true
  is-full n count size is le = (full-is n (omega arith)).1 (let most = count-le slots n (omega arith) in omega arith)

  pub not-full : (n count : ℕ) → length slots ≡ n + 1 → count ≡ count_by (λ b. b) (take n slots) → count < n → is_full (slot_state least n slots) ≡ false
  not-full n count size is lt =
      let never : is_full (slot_state least n slots) ≡ true → ⊥ = λ e. (let all = (full-is n (omega arith)).0 e in omega arith) in
      not-true (is_full (slot_state least n slots)) never
    where
      not-true : (b : Bool) → (b ≡ true → ⊥) → b ≡ false
      not-true true h = absurd (h refl)
      not-true false h = refl

-- stored numbers are rows without a null
pub number-rows : {A : Type 0} (value : A → ℤ) (xs : List A) → any_null (number_slots value xs) ≡ false
number-rows value [] = refl
number-rows value (x ∷ xs) = number-rows value xs

pub drop-number_rows : {A : Type 0} (value : A → ℤ) (xs : List A) (k : ℕ) → any_null (drop k (number_slots value xs)) ≡ false
drop-number_rows value xs zero = number-rows value xs
drop-number_rows value [] (suc k) = refl
drop-number_rows value (x ∷ xs) (suc k) = drop-number_rows value xs k

-- ---- masks

-- how many elements pass a test, from the last one on
abbrev pub tally : {A : Type 0} → (A → Bool) → List A → ℕ
tally p [] = 0
tally p (x ∷ xs) = cond (p x) (1 + tally p xs) (tally p xs)

pub tally-is : {A : Type 0} (p : A → Bool) (xs : List A) → tally p xs ≡ count_by p xs
tally-is p xs = is_count_by (tally p) p refl (λ x rest. refl) xs

unmasked : (bits : List Bool) (rows : List Row) → length bits ≡ length rows → tally not bits ≡ 0 → masked bits rows ≡ rows
unmasked [] [] long none = refl
unmasked [] (r ∷ rows) long none = absurd (omega arith)
unmasked (b ∷ bits) [] long none = absurd (omega arith)
unmasked (true ∷ bits) (r ∷ rows) long none = ap (λ rest. r ∷ rest) (unmasked bits rows (omega arith) none)
unmasked (false ∷ bits) (r ∷ rows) long none = absurd (omega arith)

null-in : {A : Type 0} (value : A → ℤ) (bits : List Bool) (xs : List A) → length bits ≡ length xs → 0 < tally not bits → any_null (masked bits (number_slots value xs)) ≡ true
null-in value [] xs long some = absurd (omega arith)
null-in value (b ∷ bits) [] long some = absurd (omega arith)
null-in value (true ∷ bits) (x ∷ xs) long some = null-in value bits xs (omega arith) some
null-in value (false ∷ bits) (x ∷ xs) long some = refl

-- where all bits are set no row is masked
pub none-masked : (bits : List Bool) (rows : List Row) → length bits ≡ length rows → count_by not bits ≡ 0 → masked bits rows ≡ rows
none-masked bits rows long none = unmasked bits rows long (tally-is not bits ∙ none)

-- else some row is null
pub some-masked : {A : Type 0} (value : A → ℤ) (bits : List Bool) (xs : List A) → length bits ≡ length xs → 0 < count_by not bits → any_null (masked bits (number_slots value xs)) ≡ true
some-masked value bits xs long some = null-in value bits xs long (subst (λ n. 0 < n) (sym (tally-is not bits)) some)

-- ---- rows read

is-null : (b : Bool) (m k : ℕ) → b ≡ true → m ≡ cond b m k
is-null true m k e = refl
is-null false m k e = cc

-- with a null all rows are read
pub read-all : (s : State) (rows : List Row) → any_null rows ≡ true → length rows ≡ rows_read s rows
read-all s rows some = is-null (any_null rows) (length rows) (min (length rows) (whole_blocks (fullpoint s rows))) some

not-null : (b : Bool) (m k : ℕ) → b ≡ false → cond b m k ≡ k
not-null true m k e = cc
not-null false m k e = refl

pub read-end : (s : State) (rows : List Row) (at len : ℕ) → any_null rows ≡ false → length rows ≡ len → at ≡ len → at ≤ whole_blocks (fullpoint s rows) → at ≡ rows_read s rows
read-end s rows at len none long done needed =
    let least : min (length rows) (whole_blocks (fullpoint s rows)) ≡ at = omega arith in
    sym (not-null (any_null rows) (length rows) (min (length rows) (whole_blocks (fullpoint s rows))) none ∙ least)

pub read-full : (s : State) (rows : List Row) (at : ℕ) → any_null rows ≡ false → at < length rows → is_full (appended (take at rows) s) ≡ true → 512 * (at / 512) ≡ at → at ≤ whole_blocks (fullpoint s rows) → at ≡ rows_read s rows
read-full s rows at none within full blocks needed =
    let by_then = fullpoint-le s rows at full in
    let least : min (length rows) (whole_blocks (fullpoint s rows)) ≡ at = omega arith in
    sym (not-null (any_null rows) (length rows) (min (length rows) (whole_blocks (fullpoint s rows))) none ∙ least)

pub still-needed : (s : State) (rows : List Row) (at n : ℕ) → at < length rows → is_full (appended (take at rows) s) ≡ false → 512 * (at / 512) ≡ at → n ≤ 512 → at + n ≤ whole_blocks (fullpoint s rows)
still-needed s rows at n within open_ blocks few =
    let later = fullpoint-gt s rows at within open_ in
    omega arith

-- what is left changes nothing of a state that is full
pub Marks-full : (least : ℤ) (n : ℕ) (rows : List Row) (before after : List Bool) (at : ℕ) → is_full (slot_state least n after) ≡ true → any_null (drop at rows) ≡ false → Marks least n (take at rows) before after → Marks least n rows before after
Marks-full least n rows before after at full none done =
    record {
      size = done.size;
      state =
          sym (appended-full (drop at rows) (slot_state least n after) full none)
          ∙ ap (appended (drop at rows)) done.state
          ∙ sym (appended-append (take at rows) (drop at rows) (slot_state least n before))
          ∙ ap (λ rs. appended rs (slot_state least n before)) (take-append-drop at rows);
    }
