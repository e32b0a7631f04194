-- States to which rows are appended.
use Rattle.std.proofs.Common.{◌≡◌, ◌<◌, ◌≤◌, ◌∙◌, ◌||◌, ◌&&◌, ◌++◌, ℕ, zero, suc, Bool, true, false, cond, List, [], ◌∷◌, length, take, map, refl, sym, ap, ap₂, arith}
use Rattle.std.specs.Prelude.{ℤ}
use Rattle.std.specs.List.{list_all}
use Rattle.std.proofs.lemmas.List.Folds.{list_any-append}
use Rattle.polars_arrays_flat.specs.ArrayRows.{is_null}
use Rattle.polars_arrays_flat.specs.Row.{Row}
use Rattle.polars_compute_slots.specs.State.{State, any_null, appended, fullpoint, holds, is_full, is_value}

-- ---- truth values

pub or-false : (b : Bool) → (b || false) ≡ b
or-false true = refl
or-false false = refl

pub or-true : (b : Bool) → (b || true) ≡ true
or-true true = refl
or-true false = refl

pub or-groups : (a b c : Bool) → (a || (b || c)) ≡ ((a || b) || c)
or-groups true b c = refl
or-groups false b c = refl

pub and-first : (a b : Bool) → (a && b) ≡ true → a ≡ true
and-first true b e = refl
and-first false b e = e

pub and-second : (a b : Bool) → (a && b) ≡ true → b ≡ true
and-second true b e = e
and-second false b e = cc

-- a state of its two parts
abbrev made : List (ℤ × Bool) → Bool → State
made values has_null = record { values = values; has_null = has_null }

-- ---- no rows, and rows after rows

values-none : (vs : List (ℤ × Bool)) → map (λ v. (v.0, v.1 || false)) vs ≡ vs
values-none [] = refl
values-none (v ∷ vs) = ap₂ (λ (w : ℤ × Bool) (ws : List (ℤ × Bool)). w ∷ ws) (ap (λ (b : Bool). (v.0, b)) (or-false v.1)) (values-none vs)

pub appended-none : (s : State) → appended [] s ≡ s
appended-none s = ap₂ made (values-none s.values) (or-false s.has_null)

values-append : (xs ys : List Row) (vs : List (ℤ × Bool)) → map {B = ℤ × Bool} (λ (v : ℤ × Bool). (v.0, v.1 || holds (xs ++ ys) v.0)) vs ≡ map {B = ℤ × Bool} (λ (v : ℤ × Bool). (v.0, v.1 || holds ys v.0)) (map {B = ℤ × Bool} (λ (v : ℤ × Bool). (v.0, v.1 || holds xs v.0)) vs)
values-append xs ys [] = refl
values-append xs ys (v ∷ vs) =
    ap₂ (λ (w : ℤ × Bool) (ws : List (ℤ × Bool)). w ∷ ws)
    (ap (λ (b : Bool). (v.0, b)) (ap (λ b. v.1 || b) (list_any-append (is_value v.0) xs ys) ∙ or-groups v.1 (holds xs v.0) (holds ys v.0)))
    (values-append xs ys vs)

pub appended-append : (xs ys : List Row) (s : State) → appended (xs ++ ys) s ≡ appended ys (appended xs s)
appended-append xs ys s =
    ap₂ made (values-append xs ys s.values)
    (ap (λ b. s.has_null || b) (list_any-append is_null xs ys) ∙ or-groups s.has_null (any_null xs) (any_null ys))

-- ---- states that are full

values-full : (p : ℤ → Bool) (vs : List (ℤ × Bool)) → list_all (λ v. v.1) vs ≡ true → map (λ v. (v.0, v.1 || p v.0)) vs ≡ vs
values-full p [] full = refl
values-full p (v ∷ vs) full =
    let one : v.1 ≡ true = and-first v.1 (list_all (λ (w : ℤ × Bool). w.1) vs) full in
    ap₂ (λ (w : ℤ × Bool) (ws : List (ℤ × Bool)). w ∷ ws) (ap (λ (b : Bool). (v.0, b)) (ap (λ (b : Bool). b || p v.0) one ∙ sym one))
    (values-full p vs (and-second v.1 (list_all (λ (w : ℤ × Bool). w.1) vs) full))

-- rows without null change nothing of a full state
pub appended-full : (rows : List Row) (s : State) → is_full s ≡ true → any_null rows ≡ false → appended rows s ≡ s
appended-full rows s full none =
    ap₂ made (values-full (holds rows) s.values full) (ap (λ b. s.has_null || b) none ∙ or-false s.has_null)

pub stays-full : (rows : List Row) (s : State) → is_full s ≡ true → is_full (appended rows s) ≡ true
stays-full rows s full =
    ap (λ (ws : List (ℤ × Bool)). list_all (λ (v : ℤ × Bool). v.1) ws) (values-full (holds rows) s.values full) ∙ full

-- ---- the point at which a state is full

along : (row : Row) (rows : List Row) (k : ℕ) (s : State) → appended (take (suc k) (row ∷ rows)) s ≡ appended (take k rows) (appended (row ∷ []) s)
along row rows k s = appended-append (row ∷ []) (take k rows) s

le-cond : (b : Bool) (m k : ℕ) → (b ≡ false → m ≤ k) → cond b 0 m ≤ k
le-cond true m k h = omega arith
le-cond false m k h = h refl

lt-cond : (b : Bool) (m k : ℕ) → b ≡ false → k < m → k < cond b 0 m
lt-cond true m k e h = cc
lt-cond false m k e h = h

not-true : (b : Bool) → (b ≡ true → ⊥) → b ≡ false
not-true true h = absurd (h refl)
not-true false h = refl

-- where rows make a state full it is full by then
pub fullpoint-le : (s : State) (rows : List Row) (k : ℕ) → is_full (appended (take k rows) s) ≡ true → fullpoint s rows ≤ k
fullpoint-le s [] k full = omega arith
fullpoint-le s (row ∷ rows) zero full =
    let now : is_full s ≡ true = sym (ap is_full (appended-none s)) ∙ full in
    le-cond (is_full s) (suc (fullpoint (appended (row ∷ []) s) rows)) 0 (λ e. cc)
fullpoint-le s (row ∷ rows) (suc k) full =
    let later = fullpoint-le (appended (row ∷ []) s) rows k (sym (ap is_full (along row rows k s)) ∙ full) in
    le-cond (is_full s) (suc (fullpoint (appended (row ∷ []) s) rows)) (suc k) (λ e. omega arith)

-- where they do not, it is full later, if at all
pub fullpoint-gt : (s : State) (rows : List Row) (k : ℕ) → k < length rows → is_full (appended (take k rows) s) ≡ false → k < fullpoint s rows
fullpoint-gt s [] k within not_yet = absurd (omega arith)
fullpoint-gt s (row ∷ rows) zero within not_yet =
    let now : is_full s ≡ false = sym (ap is_full (appended-none s)) ∙ not_yet in
    lt-cond (is_full s) (suc (fullpoint (appended (row ∷ []) s) rows)) 0 now (omega arith)
fullpoint-gt s (row ∷ rows) (suc k) within not_yet =
    let later = fullpoint-gt (appended (row ∷ []) s) rows k (omega arith) (sym (ap is_full (along row rows k s)) ∙ not_yet) in
    let now : is_full s ≡ false = not-true (is_full s) (λ full. let still = stays-full (take (suc k) (row ∷ rows)) s full in cc) in
    lt-cond (is_full s) (suc (fullpoint (appended (row ∷ []) s) rows)) (suc k) now (omega arith)
