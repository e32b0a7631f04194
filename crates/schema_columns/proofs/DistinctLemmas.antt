-- How many numbers differ: counted by the values of a range that are held.
use Rattle.std.proofs.Common.{◌≡◌, ◌<◌, ◌+◌, ◌||◌, ◌&&◌, ◌∙◌, ℕ, zero, suc, Bool, true, false, cond, if◌then◌else◌, List, [], ◌∷◌, length, map, pos, refl, sym, ap, arith}
use Rattle.std.proofs.lemmas.Bool.Decides.{Decides-int_eq}
use Rattle.std.proofs.lemmas.Int.{ints}
use Rattle.std.proofs.lemmas.List.Sums.{sum_by-cons}
use Rattle.std.specs.List.{count_by, list_any, range_with_len}
use Rattle.std.specs.Ordering.{int_eq}
use Rattle.std.specs.Prelude.{ℤ, ◌+ℤ◌, ◌-ℤ◌, unsigned_abs, ◌<ℤ◌}
use Rattle.polars_arrays_flat.specs.Row.{Row, Int}
use Rattle.polars_compute_slots.specs.State.{State, appended, are_within, holds, new_state, numbers_between, numbers_from, range_of, set_of}
use Rattle.schema_values.specs.Distinct.{distinct_total}

pub int_turned : (x q : ℤ) → int_eq x q ≡ int_eq q x
int_turned x q = by (int_eq x q) (int_eq q x) refl refl
  where
    by : (a b : Bool) → int_eq x q ≡ a → int_eq q x ≡ b → a ≡ b
    by true true e f = refl
    by false false e f = refl
    by true false e f =
        let same : x ≡ q = (Decides-int_eq x q).0 e in
        let back : int_eq q x ≡ true = (Decides-int_eq q x).1 (sym same) in
        sym back ∙ f
    by false true e f =
        let same : q ≡ x = (Decides-int_eq q x).0 f in
        let back : int_eq x q ≡ true = (Decides-int_eq x q).1 (sym same) in
        sym e ∙ back

-- ---- states

-- a new state in which the values are marked that pass a test
abbrev pub marked : (ℤ → Bool) → List ℤ → State
marked p range = record { values = map (λ v. (v.0, v.1 || p v.0)) (new_state range).values; has_null = false }

count_cons : (p : ℤ → Bool) (v : ℤ) (vs : List ℤ) → count_by p (v ∷ vs) ≡ cond (p v) 1 0 + count_by p vs
count_cons p v vs = sum_by-cons (λ x. cond (p x) 1 0) v vs

marked_step : (v : ℤ) (b : Bool) (s : State) → length (set_of (record { values = (v, b) ∷ s.values; has_null = false })) ≡ cond b 1 0 + length (set_of s)
marked_step v true s = omega arith
marked_step v false s = omega arith

-- its set has as many values as pass
set_counted : (p : ℤ → Bool) (range : List ℤ) → length (set_of (marked p range)) ≡ count_by p range
set_counted p [] = refl
set_counted p (v ∷ vs) = marked_step v (p v) (marked p vs) ∙ (ap (λ n. cond (p v) 1 0 + n) (set_counted p vs) ∙ sym (count_cons p v vs))

-- the values of a range
abbrev values_from : ℤ → ℕ → ℕ → List ℤ
values_from least a n = map (λ i. least +ℤ pos i) (range_with_len a n)

-- no value of a range is a number that lies before it
none_before : (least x : ℤ) (a n : ℕ) → x <ℤ (least +ℤ pos a) → list_any (λ v. int_eq v x) (values_from least a n) ≡ false
none_before least x a zero low = refl
none_before least x a (suc n) low = by (int_eq (least +ℤ pos a) x) refl (none_before least x (a + 1) n (omega (arith, ints)))
  where
    by : (b : Bool) → int_eq (least +ℤ pos a) x ≡ b → list_any (λ v. int_eq v x) (values_from least (a + 1) n) ≡ false → (b || list_any (λ v. int_eq v x) (values_from least (a + 1) n)) ≡ false
    by true e rest = absurd (let same : least +ℤ pos a ≡ x = (Decides-int_eq (least +ℤ pos a) x).0 e in omega (arith, ints))
    by false e rest = rest

-- a number that is not among values adds none of them
not_among : (p : ℤ → Bool) (x : ℤ) (vs : List ℤ) → list_any (λ v. int_eq v x) vs ≡ false → count_by (λ v. int_eq v x || p v) vs ≡ count_by p vs
not_among p x [] e = refl
not_among p x (v ∷ vs) e = count_cons (λ v. int_eq v x || p v) v vs ∙ (by (int_eq v x) e (not_among p x vs) ∙ sym (count_cons p v vs))
  where
    by : (b : Bool) → (b || list_any (λ v. int_eq v x) vs) ≡ false → (list_any (λ v. int_eq v x) vs ≡ false → count_by (λ v. int_eq v x || p v) vs ≡ count_by p vs)
        → cond (b || p v) 1 0 + count_by (λ v. int_eq v x || p v) vs ≡ cond (p v) 1 0 + count_by p vs
    by true rest more = absurd (cc)
    by false rest more = ap (λ n. cond (p v) 1 0 + n) (more rest)

flag_moved : (b : Bool) (k : ℕ) → 1 + k ≡ cond b 1 0 + k + (if b then 0 else 1)
flag_moved true k = omega arith
flag_moved false k = omega arith

-- a number of a range adds one, unless it was counted already
one_among : (p : ℤ → Bool) (least x : ℤ) (a n : ℕ) → list_any (λ v. int_eq v x) (values_from least a n) ≡ true
    → count_by (λ v. int_eq v x || p v) (values_from least a n) ≡ count_by p (values_from least a n) + (if p x then 0 else 1)
one_among p least x a zero e = absurd (cc)
one_among p least x a (suc n) e =
    count_cons (λ v. int_eq v x || p v) (least +ℤ pos a) (values_from least (a + 1) n)
    ∙ (by (int_eq (least +ℤ pos a) x) refl e (one_among p least x (a + 1) n)
    ∙ ap (λ k. k + (if p x then 0 else 1)) (sym (count_cons p (least +ℤ pos a) (values_from least (a + 1) n))))
  where
    rest : List ℤ
    rest = values_from least (a + 1) n

    by : (b : Bool) → int_eq (least +ℤ pos a) x ≡ b → (b || list_any (λ v. int_eq v x) rest) ≡ true
        → (list_any (λ v. int_eq v x) rest ≡ true → count_by (λ v. int_eq v x || p v) rest ≡ count_by p rest + (if p x then 0 else 1))
        → cond (b || p (least +ℤ pos a)) 1 0 + count_by (λ v. int_eq v x || p v) rest ≡ cond (p (least +ℤ pos a)) 1 0 + count_by p rest + (if p x then 0 else 1)
    by true is within more =
        let same : least +ℤ pos a ≡ x = (Decides-int_eq (least +ℤ pos a) x).0 is in
        let others : count_by (λ v. int_eq v x || p v) rest ≡ count_by p rest = not_among p x rest (none_before least x (a + 1) n (omega (arith, ints))) in
        ap (λ k. 1 + k) others ∙ (flag_moved (p x) (count_by p rest) ∙ ap (λ y. cond (p y) 1 0 + count_by p rest + (if p x then 0 else 1)) (sym same))
    by false is within more =
        let there = more within in
        omega (arith, there)

-- whether rows hold a number is whether it is among their numbers
holds_is : (x : ℤ) (xs : List ℤ) → holds (map Int xs) x ≡ list_any (int_eq x) xs
holds_is x [] = refl
holds_is x (y ∷ ys) = ap (λ b. int_eq x y || b) (holds_is x ys)

and_first : (a b : Bool) → (a && b) ≡ true → a ≡ true
and_first true b e = refl
and_first false b e = e

and_second : (a b : Bool) → (a && b) ≡ true → b ≡ true
and_second true b e = e
and_second false b e = absurd (cc)

none_counted_by : (vs : List ℤ) → count_by (λ (v : ℤ). false) vs ≡ 0
none_counted_by [] = refl
none_counted_by (v ∷ vs) = let rest = none_counted_by vs in omega (arith, count_cons (λ (v : ℤ). false) v vs, rest)

-- as many values of the range are held as numbers differ
held_is : (least : ℤ) (n : ℕ) (xs : List ℤ) → are_within (numbers_from least n) (map Int xs) ≡ true → count_by (holds (map Int xs)) (numbers_from least n) ≡ distinct_total int_eq xs
held_is least n [] e = none_counted_by (numbers_from least n)
held_is least n (x ∷ xs) e =
    let here : list_any (λ v. int_eq v x) (numbers_from least n) ≡ true =
    and_first (list_any (λ v. int_eq v x) (numbers_from least n)) (are_within (numbers_from least n) (map Int xs)) e in
    let later : are_within (numbers_from least n) (map Int xs) ≡ true =
    and_second (list_any (λ v. int_eq v x) (numbers_from least n)) (are_within (numbers_from least n) (map Int xs)) e in
    one_among (holds (map Int xs)) least x 0 n here
    ∙ (ap (λ k. k + (if holds (map Int xs) x then 0 else 1)) (held_is least n xs later)
    ∙ ap (λ b. distinct_total int_eq xs + (if b then 0 else 1)) (holds_is x xs))

state_counts : (least : ℤ) (n : ℕ) (xs : List ℤ) → are_within (numbers_from least n) (map Int xs) ≡ true
    → length (set_of (appended (map Int xs) (new_state (numbers_from least n)))) ≡ distinct_total int_eq xs
state_counts least n xs e = set_counted (holds (map Int xs)) (numbers_from least n) ∙ held_is least n xs e

range_is : (range : List ℤ) → range_of (new_state range) ≡ range
range_is [] = refl
range_is (v ∷ vs) = ap (λ rest. v ∷ rest) (range_is vs)

-- a new state of a range that takes all rows has as many values after them as numbers differ
pub state_total : (least greatest : ℤ) (xs : List ℤ) (rows : List Row) (s after : State) → rows ≡ map Int xs → s ≡ new_state (numbers_between least greatest)
    → are_within (range_of s) rows ≡ true → after ≡ appended rows s → length (set_of after) ≡ distinct_total int_eq xs
state_total least greatest xs rows s after is new within follows =
    let n : ℕ = unsigned_abs (greatest -ℤ least +ℤ pos 1) in
    let range : range_of s ≡ numbers_from least n = ap range_of new ∙ range_is (numbers_from least n) in
    let all : are_within (numbers_from least n) (map Int xs) ≡ true = ap (λ l. are_within (numbers_from least n) l) (sym is) ∙ (ap (λ r. are_within r rows) (sym range) ∙ within) in
    ap (λ a. length (set_of a)) follows
    ∙ (ap (λ l. length (set_of (appended l s))) is ∙ (ap (λ t. length (set_of (appended (map Int xs) t))) new ∙ state_counts least n xs all))
