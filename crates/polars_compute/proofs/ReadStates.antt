-- Appending and merging once a state has seen all, in the reading in which some values mean null.
use Rattle.std.proofs.Common.{◌≡◌, ◌∙◌, ◌&&◌, ◌||◌, Bool, true, false, not, List, [], ◌∷◌, map, refl, sym, ap, ap₂}
use Rattle.std.specs.Prelude.{ℤ, filter}
use Rattle.std.specs.List.{list_all, list_any}
use Rattle.polars_arrays_flat.specs.Row.{Row}
use Rattle.polars_compute.proofs.MergedStates.{added, all_in, and-first, and-second, joined, made, names, or-seen, put_first}
use Rattle.polars_compute.specs.StateLaws.{ReadStaysWhenAppended, ReadStaysWhenMerged}
use Rattle.polars_compute_slots.specs.State.{State, any_null, finalised, holds, is_full, read_by}

-- the values that do not stand for null
abbrev read : (ℤ → Bool) → List (ℤ × Bool) → List (ℤ × Bool)
read null vs = filter (λ (v : ℤ × Bool). not (null v.0)) vs

-- whether one that stands for null was seen
abbrev raised : (ℤ → Bool) → List (ℤ × Bool) → Bool
raised null vs = list_any (λ (v : ℤ × Bool). v.1 && null v.0) vs

-- ---- the values

added-one : (null p : ℤ → Bool) (v : ℤ) (seen : Bool) (vs : List (ℤ × Bool)) (b : Bool) → null v ≡ b → all_in (read null ((v, seen) ∷ vs)) ≡ true → (all_in (read null vs) ≡ true → read null (added p vs) ≡ read null vs) → read null (added p ((v, seen) ∷ vs)) ≡ read null ((v, seen) ∷ vs)
added-one null p v seen vs true is all rest = rw is (rest (rw is at all))
added-one null p v seen vs false is all rest =
    let both : (seen && all_in (read null vs)) ≡ true = rw is at all in
    rw is (ap₂ put_first (ap (λ (b : Bool). (v, b)) (or-seen seen (p v) (and-first seen (all_in (read null vs)) both))) (rest (and-second seen (all_in (read null vs)) both)))

added-read : (null p : ℤ → Bool) (vs : List (ℤ × Bool)) → all_in (read null vs) ≡ true → read null (added p vs) ≡ read null vs
added-read null p [] all = refl
added-read null p ((v, seen) ∷ vs) all = added-one null p v seen vs (null v) refl all (added-read null p vs)

joined-one : (null : ℤ → Bool) (v : ℤ) (seen other : Bool) (vs ws : List (ℤ × Bool)) (b : Bool) → null v ≡ b → all_in (read null ((v, seen) ∷ vs)) ≡ true → (all_in (read null vs) ≡ true → read null (joined vs ws) ≡ read null vs) → read null ((v, seen || other) ∷ joined vs ws) ≡ read null ((v, seen) ∷ vs)
joined-one null v seen other vs ws true is all rest = rw is (rest (rw is at all))
joined-one null v seen other vs ws false is all rest =
    let both : (seen && all_in (read null vs)) ≡ true = rw is at all in
    rw is (ap₂ put_first (ap (λ (b : Bool). (v, b)) (or-seen seen other (and-first seen (all_in (read null vs)) both))) (rest (and-second seen (all_in (read null vs)) both)))

joined-read : (null : ℤ → Bool) (vs ws : List (ℤ × Bool)) → all_in (read null vs) ≡ true → names vs ≡ names ws → read null (joined vs ws) ≡ read null vs
joined-read null [] ws all e = refl
joined-read null (v ∷ vs) [] all e = cc
joined-read null ((v, seen) ∷ vs) ((w, other) ∷ ws) all e =
    let rest : names vs ≡ names ws = cc in
    joined-one null v seen other vs ws (null v) refl all (λ more. joined-read null vs ws more rest)

-- ---- the flag

or-kept : (a b c d : Bool) → (a ≡ true → c ≡ true) → (b ≡ true → d ≡ true) → (a || b) ≡ true → (c || d) ≡ true
or-kept true b true d first second e = refl
or-kept true b false d first second e = let never : false ≡ true = first refl in cc
or-kept false b true d first second e = refl
or-kept false b false d first second e = second e

seen-kept : (seen other null : Bool) → (seen && null) ≡ true → ((seen || other) && null) ≡ true
seen-kept true other null e = e
seen-kept false other null e = cc

added-raised : (null p : ℤ → Bool) (vs : List (ℤ × Bool)) → raised null vs ≡ true → raised null (added p vs) ≡ true
added-raised null p [] e = e
added-raised null p ((v, seen) ∷ vs) e =
    or-kept (seen && null v) (raised null vs) ((seen || p v) && null v) (raised null (added p vs)) (seen-kept seen (p v) (null v)) (added-raised null p vs) e

joined-raised : (null : ℤ → Bool) (vs ws : List (ℤ × Bool)) → names vs ≡ names ws → raised null vs ≡ true → raised null (joined vs ws) ≡ true
joined-raised null [] ws e told = told
joined-raised null (v ∷ vs) [] e told = cc
joined-raised null ((v, seen) ∷ vs) ((w, other) ∷ ws) e told =
    let rest : names vs ≡ names ws = cc in
    or-kept (seen && null v) (raised null vs) ((seen || other) && null v) (raised null (joined vs ws)) (seen-kept seen other (null v)) (joined-raised null vs ws rest) told

or-first : (a b : Bool) → a ≡ true → (a || b) ≡ true
or-first true b e = refl
or-first false b e = cc

-- ---- both

pub read_stays-appended : ReadStaysWhenAppended
read_stays-appended null put s rows all within =
    let flag = and-second (all_in (read null s.values)) (s.has_null || raised null s.values) all in
    ap (finalised put)
    (ap₂ made
    (added-read null (holds rows) s.values (and-first (all_in (read null s.values)) (s.has_null || raised null s.values) all))
    (or-kept s.has_null (raised null s.values) (s.has_null || any_null rows) (raised null (added (holds rows) s.values)) (or-first s.has_null (any_null rows)) (added-raised null (holds rows) s.values) flag ∙ sym flag))

pub read_stays-merged : ReadStaysWhenMerged
read_stays-merged null put s t all same =
    let flag = and-second (all_in (read null s.values)) (s.has_null || raised null s.values) all in
    ap (finalised put)
    (ap₂ made
    (joined-read null s.values t.values (and-first (all_in (read null s.values)) (s.has_null || raised null s.values) all) same)
    (or-kept s.has_null (raised null s.values) (s.has_null || t.has_null) (raised null (joined s.values t.values)) (or-first s.has_null t.has_null) (joined-raised null s.values t.values same) flag ∙ sym flag))
