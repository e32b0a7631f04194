-- Rows of results, place by place.
use Rattle.std.proofs.Common.{◌≡◌, ◌<◌, ◌∙◌, ◌&&◌, ℕ, zero, suc, Bool, true, false, List, [], ◌∷◌, length, replicate, refl, sym, ap, subst, arith}
use Rattle.std.specs.Prelude.{ℤ, pos, negsuc, Option, Some, None, slice_index_or}
use Rattle.std.specs.List.{AllZip, zip}
use Rattle.std.specs.Simd.Lanes.{zip2}
use Rattle.std.proofs.lemmas.List.{length-map, length-replicate}
use Rattle.std.proofs.lemmas.Slice.Zip.{AllZip-long}
use Rattle.polars_arrays_flat.specs.ArrayRows.{number_rows}
use Rattle.polars_arrays_flat.specs.Numbers.{Numbers}
use Rattle.polars_arrays_flat.specs.Row.{Row, Int}
use Rattle.polars_arrays_flat.specs.StoredRows.{kept, masked, number_slots, rows_under}
use Rattle.polars_arrays_flat.specs.Validity.{HasBits, is_present}
use Rattle.polars_arrays_numbers.specs.Wrapping.{wrapped}
use Rattle.polars_compute_arithmetic.proofs.Joined.{joined-bits, length-pairs}
use Rattle.polars_compute_arithmetic.proofs.Zips.{all_zip-weaker}
use Rattle.polars_compute_arithmetic.specs.Maps.{AllPairs, MapsEach, MapsPairs, joined_validity}
use Rattle.polars_compute_arithmetic.specs.Operations.{Function, Operation, answer_row, answer_rows, on_row, or_zero, result_row, result_rows, unless_zero}
use Rattle.polars_compute_arithmetic.specs.Results.{IsAnswer, IsResult}
use Rattle.polars_compute_arithmetic.specs.Zeros.{MasksZeros, is_nonzero}

-- the rows whose bit is set
abbrev kept_by : (ℕ → Bool) → List Row → List Row
kept_by p [] = []
kept_by p (row ∷ rows) = kept (p 0) row ∷ kept_by (λ i. p (suc i)) rows

kept-all : (p : ℕ → Bool) (rows : List Row) → ((i : ℕ) → p i ≡ true) → rows ≡ kept_by p rows
kept-all p [] h = refl
kept-all p (row ∷ rows) h =
    let first : row ≡ kept (p 0) row = ap (λ (b : Bool). kept b row) (sym (h 0)) in
    let rest = kept-all (λ i. p (suc i)) rows (λ i. h (suc i)) in
    cc

kept-masked : (p : ℕ → Bool) (bits : List Bool) (rows : List Row) → length bits ≡ length rows → ((i : ℕ) → p i ≡ slice_index_or bits i false) → masked bits rows ≡ kept_by p rows
kept-masked p [] [] e h = refl
kept-masked p [] (row ∷ rows) e h = absurd (omega arith)
kept-masked p (bit ∷ bits) [] e h = absurd (omega arith)
kept-masked p (bit ∷ bits) (row ∷ rows) e h =
    let first : kept bit row ≡ kept (p 0) row = ap (λ (b : Bool). kept b row) (sym (h 0)) in
    let rest = kept-masked (λ i. p (suc i)) bits rows (omega arith) (λ i. h (suc i)) in
    cc

-- the rows under a validity, each asked by its place
kept-under : (v : Option (List Bool)) (rows : List Row) → HasBits (length rows) v → rows_under v rows ≡ kept_by (is_present v) rows
kept-under None rows h = kept-all (is_present None) rows (λ i. refl)
kept-under (Some bits) rows h = kept-masked (is_present (Some bits)) bits rows h (λ i. refl)

kept-numbers : {A : Type 0} (value : A → ℤ) (v : Option (List Bool)) (xs : List A) → HasBits (length xs) v → rows_under v (number_slots value xs) ≡ kept_by (is_present v) (number_slots value xs)
kept-numbers value v xs h =
    kept-under v (number_slots value xs) (subst (λ (n : ℕ). HasBits n v) (sym (length-map xs (λ (x : _). Int (value x)))) h)

abbrev pub has_answer : Option ℤ → Bool
has_answer None = false
has_answer (Some a) = true

-- division by a number has a result unless the number is 0
pub has_answer-nonzero : (f : ℤ → ℤ → ℤ) (a b : ℤ) → has_answer (unless_zero f a b) ≡ is_nonzero b
has_answer-nonzero f a (pos zero) = refl
has_answer-nonzero f a (pos (suc n)) = refl
has_answer-nonzero f a (negsuc n) = refl

and-true : (b : Bool) → b ≡ (b && true)
and-true true = refl
and-true false = refl

joined-at : (ls rs : List Bool) (i : ℕ) → length rs ≡ length ls → slice_index_or (zip2 ◌&&◌ ls rs) i false ≡ (slice_index_or ls i false && slice_index_or rs i false)
joined-at [] [] i e = refl
joined-at [] (r ∷ rs) i e = absurd (omega arith)
joined-at (l ∷ ls) [] i e = absurd (omega arith)
joined-at (l ∷ ls) (r ∷ rs) zero e = refl
joined-at (l ∷ ls) (r ∷ rs) (suc i) e = joined-at ls rs i (omega arith)

-- a row is present under two validities joined where it is under both
pub joined-present : (n : ℕ) (l r : Option (List Bool)) (i : ℕ) → HasBits n l → HasBits n r → is_present (joined_validity l r) i ≡ (is_present l i && is_present r i)
joined-present n None r i hl hr = refl
joined-present n (Some l) None i hl hr = and-true (slice_index_or l i false)
joined-present n (Some l) (Some r) i hl hr = joined-at l r i (hr ∙ sym hl)

module _ {A : Type 0} (value : A → ℤ) (least : ℤ) (width : ℕ) where
  answered : (o : Option ℤ) (z : ℤ) (p : Bool) → z ≡ wrapped least width (or_zero o) → p ≡ has_answer o → kept p (Int z) ≡ answer_row least width o
  answered None z p e h = ap (λ (b : Bool). kept b (Int z)) h
  answered (Some n) z p e h = ap (λ (b : Bool). kept b (Int z)) h ∙ ap Int e

  -- one function
  module _ (f : Function) (Answers : A → A → Type 0) (gives : (x z : A) → Answers x z → value z ≡ wrapped least width (or_zero (f (value x)))) where
    place : (b p : Bool) (x z : A) → Answers x z → p ≡ (b && has_answer (f (value x))) → kept p (Int (value z)) ≡ on_row (λ a. answer_row least width (f a)) (kept b (Int (value x)))
    place true p x z a h = answered (f (value x)) (value z) p (gives x z a) h
    place false p x z a h = ap (λ (k : Bool). kept k (Int (value z))) h

    each : (p b : ℕ → Bool) (xs zs : List A) → AllZip Answers xs zs
        → ((i : ℕ) (x : A) → i < length xs → x ≡ slice_index_or xs i x → p i ≡ (b i && has_answer (f (value x))))
        → kept_by p (number_slots value zs) ≡ answer_rows least width f (kept_by b (number_slots value xs))
    each p b [] [] a h = refl
    each p b [] (z ∷ zs) a h = absurd a
    each p b (x ∷ xs) [] a h = absurd a
    each p b (x ∷ xs) (z ∷ zs) a h =
        let first = place (b 0) (p 0) x z a.0 (h 0 x (omega arith) refl) in
        let rest = each (λ i. p (suc i)) (λ i. b (suc i)) xs zs a.1 (λ i y w e. h (suc i) y (omega arith) e) in
        cc

    -- an array in which each row that is present both before and in `between` has a result
    pub answers-between : (before between after : Numbers A) → between.values ≡ before.values → HasBits (length before.values) before.validity
        → ((i : ℕ) (x : A) → i < length before.values → x ≡ slice_index_or before.values i x → is_present between.validity i ≡ (is_present before.validity i && has_answer (f (value x))))
        → MapsEach Answers between after → IsAnswer value least width f before after
    answers-between before between after same hb h maps =
        let a : AllZip Answers before.values after.values = rw (← same) maps.values in
        let long : length after.values ≡ length between.values = AllZip-long _ _ _ maps.values in
        let ha : HasBits (length after.values) after.validity = rw (long, maps.nulls) maps.bits in
        kept-numbers value after.validity after.values ha
        ∙ each (is_present after.validity) (is_present before.validity) before.values after.values a (λ i x w e. ap (λ (v : Option (List Bool)). is_present v i) maps.nulls ∙ h i x w e)
        ∙ ap (answer_rows least width f) (sym (kept-numbers value before.validity before.values hb))

    -- a function that has a result for each number
    pub answers : (before after : Numbers A) → ((a : ℤ) → has_answer (f a) ≡ true) → MapsEach Answers before after → IsAnswer value least width f before after
    answers before after total maps =
        answers-between before before after refl maps.bits (λ i x w e. and-true (is_present before.validity i) ∙ ap (λ (k : Bool). is_present before.validity i && k) (sym (total (value x)))) maps

  -- one operation
  module _ (op : Operation) (Answers : A → A → A → Type 0) (gives : (x y z : A) → Answers x y z → value z ≡ wrapped least width (or_zero (op (value x) (value y)))) where
    place_both : (b c p : Bool) (x y z : A) → Answers x y z → p ≡ (b && (c && has_answer (op (value x) (value y)))) → kept p (Int (value z)) ≡ result_row least width op (kept b (Int (value x))) (kept c (Int (value y)))
    place_both true true p x y z a h = answered (op (value x) (value y)) (value z) p (gives x y z a) h
    place_both true false p x y z a h = ap (λ (k : Bool). kept k (Int (value z))) h
    place_both false c p x y z a h = ap (λ (k : Bool). kept k (Int (value z))) h

    both : (p b c : ℕ → Bool) (xs ys zs : List A) → length ys ≡ length xs → AllPairs Answers xs ys zs
        → ((i : ℕ) (x y : A) → i < length ys → y ≡ slice_index_or ys i y → x ≡ slice_index_or xs i x → p i ≡ (b i && (c i && has_answer (op (value x) (value y)))))
        → kept_by p (number_slots value zs) ≡ result_rows least width op (kept_by b (number_slots value xs)) (kept_by c (number_slots value ys))
    both p b c [] [] [] e a h = refl
    both p b c [] [] (z ∷ zs) e a h = absurd a
    both p b c [] (y ∷ ys) zs e a h = absurd (omega arith)
    both p b c (x ∷ xs) [] zs e a h = absurd (omega arith)
    both p b c (x ∷ xs) (y ∷ ys) [] e a h = absurd a
    both p b c (x ∷ xs) (y ∷ ys) (z ∷ zs) e a h =
        let first = place_both (b 0) (c 0) (p 0) x y z a.0 (h 0 x y (omega arith) refl refl) in
        let rest = both (λ i. p (suc i)) (λ i. b (suc i)) (λ i. c (suc i)) xs ys zs (omega arith) a.1 (λ i v w k m n. h (suc i) v w (omega arith) m n) in
        cc

    -- the right array; each row that is present in `right` and in `between` has a result
    pub results-between : (left right between after : Numbers A) → length left.values ≡ length right.values → between.values ≡ right.values
        → HasBits (length right.values) right.validity
        → ((i : ℕ) (x y : A) → i < length right.values → y ≡ slice_index_or right.values i y → is_present between.validity i ≡ (is_present right.validity i && has_answer (op (value x) (value y))))
        → MapsPairs Answers left between after → IsResult value least width op left right after
    results-between left right between after e same hr h maps =
        let hl = maps.left_bits in
        let hm = maps.right_bits in
        let n : length between.values ≡ length left.values = ap (λ (xs : List A). length xs) same ∙ sym e in
        let a : AllPairs Answers left.values right.values after.values = rw (← same) maps.values in
        let long : length after.values ≡ length left.values = length-pairs Answers left.values between.values after.values n maps.values in
        let hm' : HasBits (length left.values) between.validity = rw (← n) hm in
        let ha : HasBits (length after.values) after.validity = rw (long, maps.nulls) (joined-bits _ _ left.validity between.validity refl hl hm') in
        kept-numbers value after.validity after.values ha
        ∙ both (is_present after.validity) (is_present left.validity) (is_present right.validity) left.values right.values after.values (sym e) a
        (λ i x y w k m.
        ap (λ (v : Option (List Bool)). is_present v i) maps.nulls
        ∙ joined-present (length left.values) left.validity between.validity i hl hm'
        ∙ ap (λ (q : Bool). is_present left.validity i && q) (h i x y w k))
        ∙ ap (λ (rows : List Row). result_rows least width op rows (kept_by (is_present right.validity) (number_slots value right.values))) (sym (kept-numbers value left.validity left.values hl))
        ∙ ap (result_rows least width op (rows_under left.validity (number_slots value left.values))) (sym (kept-numbers value right.validity right.values hr))

    -- an operation that has a result for each two numbers
    pub results : (left right after : Numbers A) → ((a b : ℤ) → has_answer (op a b) ≡ true) → length left.values ≡ length right.values
        → MapsPairs Answers left right after → IsResult value least width op left right after
    results left right after total e maps =
        results-between left right right after e refl maps.right_bits (λ i x y w k. and-true (is_present right.validity i) ∙ ap (λ (q : Bool). is_present right.validity i && q) (sym (total (value x) (value y)))) maps

-- a function that has a result for each number except 0
pub answers-nonzero : {A : Type 0} (value : A → ℤ) (least : ℤ) (width : ℕ) (f : Function) (Answers : A → A → Type 0)
    → ((x z : A) → Answers x z → value z ≡ wrapped least width (or_zero (f (value x)))) → (before between after : Numbers A)
    → ((a : ℤ) → has_answer (f a) ≡ is_nonzero a) → MasksZeros value before between → MapsEach Answers between after
    → IsAnswer value least width f before after
answers-nonzero value least width f Answers gives before between after has masks maps =
    answers-between value least width f Answers gives before between after masks.values masks.bits_before
    (λ i x w e. masks.present i x w e ∙ ap (λ (k : Bool). is_present before.validity i && k) (sym (has (value x)))) maps

-- an operation that has a result for each divisor except 0
pub results-nonzero : {A : Type 0} (value : A → ℤ) (least : ℤ) (width : ℕ) (op : Operation) (Answers : A → A → A → Type 0)
    → ((x y z : A) → Answers x y z → value z ≡ wrapped least width (or_zero (op (value x) (value y)))) → (left right between after : Numbers A)
    → ((a b : ℤ) → has_answer (op a b) ≡ is_nonzero b) → length left.values ≡ length right.values
    → MasksZeros value right between → MapsPairs Answers left between after
    → IsResult value least width op left right after
results-nonzero value least width op Answers gives left right between after has e masks maps =
    results-between value least width op Answers gives left right between after e masks.values masks.bits_before
    (λ i x y w k. masks.present i y w k ∙ ap (λ (q : Bool). is_present right.validity i && q) (sym (has (value x) (value y)))) maps

no-row : (least : ℤ) (width : ℕ) (f : Function) (b : Bool) (n m : ℤ) → f n ≡ None → kept false (Int m) ≡ on_row (λ a. answer_row least width (f a)) (kept b (Int n))
no-row least width f true n m e = sym (ap (answer_row least width) e)
no-row least width f false n m e = refl

no-rows : {A : Type 0} (value : A → ℤ) (least : ℤ) (width : ℕ) (f : Function) → ((a : ℤ) → f a ≡ None) → (p b : ℕ → Bool) → ((i : ℕ) → p i ≡ false) → (xs : List A)
    → kept_by p (number_slots value xs) ≡ answer_rows least width f (kept_by b (number_slots value xs))
no-rows value least width f none p b off [] = refl
no-rows value least width f none p b off (x ∷ xs) =
    let first : kept (p 0) (Int (value x)) ≡ on_row (λ a. answer_row least width (f a)) (kept (b 0) (Int (value x))) = ap (λ (k : Bool). kept k (Int (value x))) (off 0) ∙ no-row least width f (b 0) (value x) (value x) (none (value x)) in
    let rest = no-rows value least width f none (λ i. p (suc i)) (λ i. b (suc i)) (λ i. off (suc i)) xs in
    cc

all-off : (n i : ℕ) → slice_index_or (replicate n false) i false ≡ false
all-off zero i = refl
all-off (suc n) zero = refl
all-off (suc n) (suc i) = all-off n i

-- a function that has no result
pub answers-none : {A : Type 0} (value : A → ℤ) (least : ℤ) (width : ℕ) (f : Function) → ((a : ℤ) → f a ≡ None) → (before after : Numbers A)
    → HasBits (length before.values) before.validity → after ≡ record before { validity = Some (replicate (length before.values) false) } → IsAnswer value least width f before after
answers-none value least width f none before after hb e =
    let off : List Bool = replicate (length before.values) false in
    let is : number_rows value after ≡ rows_under (Some off) (number_slots value before.values) = ap (number_rows value) e in
    is
    ∙ kept-numbers value (Some off) before.values (length-replicate (length before.values) false)
    ∙ no-rows value least width f none (is_present (Some off)) (is_present before.validity) (all-off (length before.values)) before.values
    ∙ ap (answer_rows least width f) (sym (kept-numbers value before.validity before.values hb))

same-row : (least : ℤ) (width : ℕ) (f g : Function) → ((a : ℤ) → f a ≡ g a) → (row : Row) → on_row (λ a. answer_row least width (f a)) row ≡ on_row (λ a. answer_row least width (g a)) row
same-row least width f g e (Int a) = ap (answer_row least width) (e a)
same-row least width f g e row = refl

same-rows : (least : ℤ) (width : ℕ) (f g : Function) → ((a : ℤ) → f a ≡ g a) → (rows : List Row) → answer_rows least width f rows ≡ answer_rows least width g rows
same-rows least width f g e [] = refl
same-rows least width f g e (row ∷ rows) =
    let first = same-row least width f g e row in
    let rest = same-rows least width f g e rows in
    cc

-- two functions with the same results
pub answers-same : {A : Type 0} (value : A → ℤ) (least : ℤ) (width : ℕ) (f g : Function) → ((a : ℤ) → f a ≡ g a) → (before after : Numbers A)
    → IsAnswer value least width f before after → IsAnswer value least width g before after
answers-same value least width f g e before after h =
    h ∙ same-rows least width f g e (number_rows value before)

-- results of a function that are results of another one too
pub maps_each-weaker : {A B : Type 0} (Answers Others : A → B → Type 0) → ((x : A) (z : B) → Answers x z → Others x z) → (before : Numbers A) (after : Numbers B)
    → MapsEach Answers before after → MapsEach Others before after
maps_each-weaker Answers Others gives before after h =
    record { values = all_zip-weaker Answers Others gives before.values after.values h.values; nulls = h.nulls; bits = h.bits }

pub maps_pairs-weaker : {A B C : Type 0} (Answers Others : A → B → C → Type 0) → ((x : A) (y : B) (z : C) → Answers x y z → Others x y z)
    → (left : Numbers A) (right : Numbers B) (after : Numbers C) → MapsPairs Answers left right after → MapsPairs Others left right after
maps_pairs-weaker {A} {B} {C} Answers Others gives left right after h = record {
  values = all_zip-weaker (λ (p : A × B) z. Answers p.0 p.1 z) (λ (p : A × B) z. Others p.0 p.1 z) (λ p z a. gives p.0 p.1 z a) (zip left.values right.values) after.values h.values;
  nulls = h.nulls;
  left_bits = h.left_bits;
  right_bits = h.right_bits;
}
