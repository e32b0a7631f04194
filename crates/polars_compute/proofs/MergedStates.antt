-- What merging, appending and having seen all make of a state.
use Rattle.std.proofs.Common.{◌≡◌, ◌∙◌, ◌++◌, ◌&&◌, ◌||◌, Bool, true, false, List, [], ◌∷◌, map, refl, sym, ap, ap₂, subst}
use Rattle.std.specs.Prelude.{ℤ}
use Rattle.std.specs.List.{list_all}
use Rattle.std.specs.Simd.Lanes.{zip2}
use Rattle.polars_arrays_flat.specs.Row.{Row}
use Rattle.polars_compare.specs.RowsLaws.{rows_of}
use Rattle.polars_compute.specs.StateLaws.{MergesAsAppended, MergesEitherWay, MergesInGroups, MergesWithItself, ReadsByRows, StatesByRows, StaysWhenAppended, StaysWhenMerged}
use Rattle.polars_compute_slots.specs.State.{State, any_null, appended, appended_all, finalised, holds, is_full, merged, new_state, range_of, rows_read}

-- a state of its two parts
abbrev pub made : List (ℤ × Bool) → Bool → State
made values has_null = record { values = values; has_null = has_null }

-- the values of two states merged
abbrev pub joined : List (ℤ × Bool) → List (ℤ × Bool) → List (ℤ × Bool)
joined vs ws = zip2 (λ (v w : ℤ × Bool). (v.0, v.1 || w.1)) vs ws

-- the values of a state joined with those for which a test is true
abbrev pub added : (ℤ → Bool) → List (ℤ × Bool) → List (ℤ × Bool)
added p vs = map {B = ℤ × Bool} (λ (v : ℤ × Bool). (v.0, v.1 || p v.0)) vs

-- the values alone
abbrev pub names : List (ℤ × Bool) → List ℤ
names vs = map {B = ℤ} (λ (v : ℤ × Bool). v.0) vs

abbrev pub put_first : ℤ × Bool → List (ℤ × Bool) → List (ℤ × Bool)
put_first v vs = v ∷ vs

or-comm : (a b : Bool) → (a || b) ≡ (b || a)
or-comm true true = refl
or-comm true false = refl
or-comm false true = refl
or-comm false false = refl

or-groups : (a b c : Bool) → ((a || b) || c) ≡ (a || (b || c))
or-groups true b c = refl
or-groups false b c = refl

or-same : (a : Bool) → (a || a) ≡ a
or-same true = refl
or-same false = refl

or-swap : (a b c : Bool) → ((a || b) || c) ≡ ((a || c) || b)
or-swap true b c = refl
or-swap false b c = or-comm b c

-- ---- one way and the other, in groups, with itself

either-way : (vs ws : List (ℤ × Bool)) → names vs ≡ names ws → joined vs ws ≡ joined ws vs
either-way [] [] e = refl
either-way [] (w ∷ ws) e = refl
either-way (v ∷ vs) [] e = refl
either-way (v ∷ vs) (w ∷ ws) e =
    let name : v.0 ≡ w.0 = cc in
    let rest : names vs ≡ names ws = cc in
    ap₂ put_first (ap₂ (λ (n : ℤ) (b : Bool). (n, b)) name (or-comm v.1 w.1)) (either-way vs ws rest)

pub merges-either_way : MergesEitherWay
merges-either_way s t e = ap₂ made (either-way s.values t.values e) (or-comm s.has_null t.has_null)

in-groups : (vs ws us : List (ℤ × Bool)) → joined (joined vs ws) us ≡ joined vs (joined ws us)
in-groups [] ws us = refl
in-groups (v ∷ vs) [] us = refl
in-groups (v ∷ vs) (w ∷ ws) [] = refl
in-groups (v ∷ vs) (w ∷ ws) (u ∷ us) = ap₂ put_first (ap (λ (b : Bool). (v.0, b)) (or-groups v.1 w.1 u.1)) (in-groups vs ws us)

pub merges-in_groups : MergesInGroups
merges-in_groups s t u = ap₂ made (in-groups s.values t.values u.values) (or-groups s.has_null t.has_null u.has_null)

with-itself : (vs : List (ℤ × Bool)) → joined vs vs ≡ vs
with-itself [] = refl
with-itself (v ∷ vs) = ap₂ put_first (ap (λ (b : Bool). (v.0, b)) (or-same v.1)) (with-itself vs)

pub merges-with_itself : MergesWithItself
merges-with_itself s = ap₂ made (with-itself s.values) (or-same s.has_null)

-- ---- appended and merged

added-joined : (p : ℤ → Bool) (vs ws : List (ℤ × Bool)) → joined (added p vs) ws ≡ added p (joined vs ws)
added-joined p [] ws = refl
added-joined p (v ∷ vs) [] = refl
added-joined p (v ∷ vs) (w ∷ ws) = ap₂ put_first (ap (λ (b : Bool). (v.0, b)) (or-swap v.1 (p v.0) w.1)) (added-joined p vs ws)

appended-merged : (rows : List Row) (s t : State) → merged (appended rows s) t ≡ appended rows (merged s t)
appended-merged rows s t = ap₂ made (added-joined (holds rows) s.values t.values) (or-swap s.has_null (any_null rows) t.has_null)

all-merged : (arrays : List (List Row)) (s t : State) → merged (appended_all arrays s) t ≡ appended_all arrays (merged s t)
all-merged [] s t = refl
all-merged (rows ∷ more) s t = all-merged more (appended rows s) t ∙ ap (appended_all more) (appended-merged rows s t)

added-added : (p q : ℤ → Bool) (vs : List (ℤ × Bool)) → added p (added q vs) ≡ added q (added p vs)
added-added p q [] = refl
added-added p q (v ∷ vs) = ap₂ put_first (ap (λ (b : Bool). (v.0, b)) (or-swap v.1 (q v.0) (p v.0))) (added-added p q vs)

appended-swap : (xs ys : List Row) (s : State) → appended xs (appended ys s) ≡ appended ys (appended xs s)
appended-swap xs ys s = ap₂ made (added-added (holds xs) (holds ys) s.values) (or-swap s.has_null (any_null ys) (any_null xs))

all-swap : (rows : List Row) (arrays : List (List Row)) (s : State) → appended rows (appended_all arrays s) ≡ appended_all arrays (appended rows s)
all-swap rows [] s = refl
all-swap rows (first ∷ more) s = all-swap rows more (appended first s) ∙ ap (appended_all more) (appended-swap rows first s)

all-both : (first more : List (List Row)) (s : State) → appended_all first (appended_all more s) ≡ appended_all (first ++ more) s
all-both [] more s = refl
all-both (rows ∷ first) more s = ap (appended_all first) (all-swap rows more s) ∙ all-both first more (appended rows s)

names-added : (p : ℤ → Bool) (vs : List (ℤ × Bool)) → names (added p vs) ≡ names vs
names-added p [] = refl
names-added p (v ∷ vs) = ap (λ (rest : List ℤ). v.0 ∷ rest) (names-added p vs)

range-all : (arrays : List (List Row)) (s : State) → range_of (appended_all arrays s) ≡ range_of s
range-all [] s = refl
range-all (rows ∷ more) s = range-all more (appended rows s) ∙ names-added (holds rows) s.values

names-new : (range : List ℤ) → names (map {B = ℤ × Bool} (λ (v : ℤ). (v, false)) range) ≡ range
names-new [] = refl
names-new (v ∷ range) = ap (λ (rest : List ℤ). v ∷ rest) (names-new range)

new-joined : (range : List ℤ) (ws : List (ℤ × Bool)) → names ws ≡ range → joined (map {B = ℤ × Bool} (λ (v : ℤ). (v, false)) range) ws ≡ ws
new-joined [] [] e = refl
new-joined [] (w ∷ ws) e = cc
new-joined (v ∷ range) [] e = cc
new-joined (v ∷ range) (w ∷ ws) e =
    let name : v ≡ w.0 = cc in
    let rest : names ws ≡ range = cc in
    ap₂ put_first (ap (λ (n : ℤ). (n, w.1)) name) (new-joined range ws rest)

new-merged : (range : List ℤ) (t : State) → range_of t ≡ range → merged (new_state range) t ≡ t
new-merged range t e = ap₂ made (new-joined range t.values e) refl

pub merges-as_appended : MergesAsAppended
merges-as_appended range first more =
    all-merged first (new_state range) (appended_all more (new_state range))
    ∙ ap (appended_all first) (new-merged range (appended_all more (new_state range)) (range-all more (new_state range) ∙ names-new range))
    ∙ all-both first more (new_state range)

-- ---- once all were seen

pub and-first : (a b : Bool) → (a && b) ≡ true → a ≡ true
and-first true b e = refl
and-first false b e = e

pub and-second : (a b : Bool) → (a && b) ≡ true → b ≡ true
and-second true b e = e
and-second false b e = cc

pub or-seen : (a b : Bool) → a ≡ true → (a || b) ≡ a
or-seen true b e = refl
or-seen false b e = cc

abbrev pub all_in : List (ℤ × Bool) → Bool
all_in vs = list_all (λ (v : ℤ × Bool). v.1) vs

added-seen : (p : ℤ → Bool) (vs : List (ℤ × Bool)) → all_in vs ≡ true → added p vs ≡ vs
added-seen p [] all = refl
added-seen p (v ∷ vs) all =
    ap₂ put_first (ap (λ (b : Bool). (v.0, b)) (or-seen v.1 (p v.0) (and-first v.1 (all_in vs) all))) (added-seen p vs (and-second v.1 (all_in vs) all))

joined-seen : (vs ws : List (ℤ × Bool)) → all_in vs ≡ true → names vs ≡ names ws → joined vs ws ≡ vs
joined-seen [] ws all e = refl
joined-seen (v ∷ vs) [] all e = cc
joined-seen (v ∷ vs) (w ∷ ws) all e =
    let rest : names vs ≡ names ws = cc in
    ap₂ put_first (ap (λ (b : Bool). (v.0, b)) (or-seen v.1 w.1 (and-first v.1 (all_in vs) all))) (joined-seen vs ws (and-second v.1 (all_in vs) all) rest)

pub stays-appended : StaysWhenAppended
stays-appended put s rows all within =
    ap (finalised put)
    (ap₂ made (added-seen (holds rows) s.values (and-first (is_full s) s.has_null all)) (or-seen s.has_null (any_null rows) (and-second (is_full s) s.has_null all)))

pub stays-merged : StaysWhenMerged
stays-merged put s t all same =
    ap (finalised put)
    (ap₂ made (joined-seen s.values t.values (and-first (is_full s) s.has_null all) same) (or-seen s.has_null t.has_null (and-second (is_full s) s.has_null all)))

-- ---- states depend on rows alone

pub states-by_rows : StatesByRows
states-by_rows s a a' after after' same is is' = is ∙ ap (λ (rows : List Row). appended rows s) same ∙ sym is'

pub reads-by_rows : ReadsByRows
reads-by_rows s a a' read read' same is is' = is ∙ ap (λ (rows : List Row). rows_read s rows) same ∙ sym is'
