-- Tests of stored numbers, joined with masks, are tests of rows.
use Rattle.std.proofs.Common.{◌≡◌, ◌<◌, ◌∙◌, ◌&&◌, ℕ, zero, suc, Bool, true, false, not, List, [], ◌∷◌, Option, Some, None, length, map, refl, sym, ap, ap₂, subst, arith}
use Rattle.std.specs.Prelude.{ℤ, Result, Ok, Err, IfOk, MatchResult}
use Rattle.std.proofs.lemmas.List.{get_or_default, length-map, same_lists}
use Rattle.std.proofs.lemmas.Simd.{get_or-zip2, length-zip2}
use Rattle.std.specs.Simd.Lanes.{zip2}
use Rattle.arrow_columns.specs.Comparing.{both, under}
use Rattle.polars_arrays_flat.proofs.RowWindows.{row-under}
use Rattle.polars_arrays_flat.specs.ArrayRows.{is_null}
use Rattle.polars_arrays_flat.specs.Row.{Row, Null, Int, Truth, Bytes, Rows, Fields, Entry}
use Rattle.polars_arrays_flat.specs.StoredRows.{row, kept, masked, rows_under, number_slots}
use Rattle.polars_arrays_flat.specs.Validity.{HasBits, is_present}
use Rattle.polars_compare_leaves.specs.Joining.{Joined, joined_bit}
use Rattle.polars_compare_leaves.specs.Sameness.{other_row, same_row}

length-masked : (bits : List Bool) (rows : List Row) → length bits ≡ length rows → length (masked bits rows) ≡ length rows
length-masked [] rows e = e
length-masked (b ∷ bits) [] e = absurd (omega arith)
length-masked (b ∷ bits) (x ∷ rows) e = ap suc (length-masked bits rows (omega arith))

pub ok-gives : {T E : Type 0} (r : Result T E) (P R : T → Type 0) (Q : E → Type 0) → ((x : T) → P x → R x) → MatchResult r P Q → IfOk r R
ok-gives (Ok x) P R Q f m = f x m
ok-gives (Err e) P R Q f m = tt

-- a mask has as many bits as an equal one
pub same-bits : (v w : Option (List Bool)) (m n : ℕ) → v ≡ w → m ≡ n → HasBits n w → HasBits m v
same-bits v w m n e f bits =
    subst (λ (u : Option (List Bool)). HasBits m u) (sym e) (subst (λ (k : ℕ). HasBits k w) (sym f) bits)

pub length-kept : (mask : Option (List Bool)) (bits : List Bool) → HasBits (length bits) mask → length (under mask bits) ≡ length bits
length-kept None bits has = refl
length-kept (Some present) bits has = length-zip2 ◌&&◌ bits present (sym has)

-- a validity has a bit for each stored row
pub slot-bits : {A : Type 0} (value : A → ℤ) (xs : List A) (mask : Option (List Bool)) → HasBits (length xs) mask → HasBits (length (number_slots value xs)) mask
slot-bits value xs mask bits = subst (λ (n : ℕ). HasBits n mask) (sym (length-map xs (λ x. Int (value x)))) bits

pub length-under : (mask : Option (List Bool)) (rows : List Row) → HasBits (length rows) mask → length (rows_under mask rows) ≡ length rows
length-under None rows bits = refl
length-under (Some present) rows bits = length-masked present rows bits

-- each stored number is a number
slot-number : {A : Type 0} (value : A → ℤ) (xs : List A) (i : ℕ) → i < length xs → (n : ℤ) × (row (number_slots value xs) i ≡ Int n)
slot-number value [] i low = absurd (omega arith)
slot-number value (x ∷ xs) zero low = (value x, refl)
slot-number value (x ∷ xs) (suc i) low = slot-number value xs i (omega arith)

-- stored numbers that are compared are rows that are tested
pub zip2-slots : {A : Type 0} (value : A → ℤ) (holds : A → A → Bool) (test : Row → Row → Bool) → ((x y : A) → holds x y ≡ test (Int (value x)) (Int (value y))) → (xs ys : List A) → zip2 holds xs ys ≡ zip2 test (number_slots value xs) (number_slots value ys)
zip2-slots value holds test law [] ys = refl
zip2-slots value holds test law (x ∷ xs) [] = refl
zip2-slots value holds test law (x ∷ xs) (y ∷ ys) =
    ap₂ (λ (c : Bool) (cs : List Bool). c ∷ cs) (law x y) (zip2-slots value holds test law xs ys)

-- a test of two stored numbers, joined with their presence, is the test of the rows
abbrev pub JoinsAs : Bool → (Row → Row → Bool) → Type 0
JoinsAs equal test =
    (p q : Bool) (m n : ℤ) → joined_bit equal (test (Int m) (Int n)) p q ≡ test (kept p (Int m)) (kept q (Int n))

pub equal-joins : JoinsAs true same_row
equal-joins true true m n = refl
equal-joins true false m n = refl
equal-joins false true m n = refl
equal-joins false false m n = refl

pub unequal-joins : JoinsAs false other_row
unequal-joins true true m n = refl
unequal-joins true false m n = refl
unequal-joins false true m n = refl
unequal-joins false false m n = refl

module _ {A : Type 0} (value : A → ℤ) (l r : Option (List Bool)) (xs ys : List A) (left : HasBits (length xs) l) (right : HasBits (length ys) r) (long : length ys ≡ length xs) where
  abbrev us : List Row
  us = number_slots value xs

  abbrev vs : List Row
  vs = number_slots value ys

  us-long : length us ≡ length xs
  us-long = length-map xs (λ x. Int (value x))

  vs-long : length vs ≡ length ys
  vs-long = length-map ys (λ y. Int (value y))

  left-long : length (rows_under l us) ≡ length xs
  left-long = length-under l us (slot-bits value xs l left) ∙ us-long

  right-long : length (rows_under r vs) ≡ length xs
  right-long = length-under r vs (slot-bits value ys r right) ∙ vs-long ∙ long

  -- stored numbers that are tested, joined with the masks, are rows that are tested
  pub joined-rows : (equal : Bool) (test : Row → Row → Bool) → JoinsAs equal test → (bits : List Bool) → Joined equal l r (zip2 test us vs) bits → bits ≡ zip2 test (rows_under l us) (rows_under r vs)
  joined-rows equal test law bits joined =
      let raw-long : length (zip2 test us vs) ≡ length xs = length-zip2 test us vs (us-long ∙ sym long ∙ sym vs-long) ∙ us-long in
      let there : length (zip2 test (rows_under l us) (rows_under r vs)) ≡ length xs = length-zip2 test (rows_under l us) (rows_under r vs) (left-long ∙ sym right-long) ∙ left-long in
      same_lists bits (zip2 test (rows_under l us) (rows_under r vs)) (joined.size ∙ raw-long ∙ sym there)
      (λ i d low.
      let below : i < length xs = omega (arith, low, joined.size, raw-long) in
      let m = slot-number value xs i below in
      let n = slot-number value ys i (omega (arith, below, long)) in
      get_or_default bits i d false low
      ∙ joined.at_each i (omega (arith, below, raw-long))
      ∙ ap (λ q. joined_bit equal q (is_present l i) (is_present r i)) (get_or-zip2 test us vs i Null Null false (omega (arith, below, us-long)) (omega (arith, below, vs-long, long)) ∙ ap₂ test m.1 n.1)
      ∙ law (is_present l i) (is_present r i) m.0 n.0
      ∙ ap₂ (λ u v. test (kept (is_present l i) u) (kept (is_present r i) v)) (sym m.1) (sym n.1)
      ∙ ap₂ test (sym (row-under l us i)) (sym (row-under r vs i))
      ∙ sym (get_or-zip2 test (rows_under l us) (rows_under r vs) i Null Null d (omega (arith, below, left-long)) (omega (arith, below, right-long))))

-- ---- tests that hold only of present rows

and-true : (b : Bool) → b ≡ (b && true)
and-true true = refl
and-true false = refl

and-false : (b : Bool) → false ≡ (b && false)
and-false true = refl
and-false false = refl

not-null : (b : Bool) → (not b && false) ≡ false
not-null true = refl
not-null false = refl

module _ (test : Row → Row → Bool) where
  kept-left : (b : Bool) (x y : Row) → both test (kept b x) y ≡ (both test x y && b)
  kept-left true x y = and-true (both test x y)
  kept-left false x y = and-false (both test x y)

  kept-right : (b : Bool) (x y : Row) → both test x (kept b y) ≡ (both test x y && b)
  kept-right true x y = and-true (both test x y)
  kept-right false x y = not-null (is_null x) ∙ and-false (both test x y)

  masked-left : (bits : List Bool) (xs ys : List Row) → length bits ≡ length xs → zip2 (both test) (masked bits xs) ys ≡ zip2 ◌&&◌ (zip2 (both test) xs ys) bits
  masked-left [] [] ys e = refl
  masked-left [] (x ∷ xs) ys e = absurd (omega arith)
  masked-left (b ∷ bits) [] ys e = absurd (omega arith)
  masked-left (b ∷ bits) (x ∷ xs) [] e = refl
  masked-left (b ∷ bits) (x ∷ xs) (y ∷ ys) e =
      ap₂ (λ (c : Bool) (cs : List Bool). c ∷ cs) (kept-left b x y) (masked-left bits xs ys (omega arith))

  masked-right : (bits : List Bool) (xs ys : List Row) → length bits ≡ length ys → zip2 (both test) xs (masked bits ys) ≡ zip2 ◌&&◌ (zip2 (both test) xs ys) bits
  masked-right bits [] ys e = refl
  masked-right [] (x ∷ xs) [] e = refl
  masked-right [] (x ∷ xs) (y ∷ ys) e = absurd (omega arith)
  masked-right (b ∷ bits) (x ∷ xs) [] e = absurd (omega arith)
  masked-right (b ∷ bits) (x ∷ xs) (y ∷ ys) e =
      ap₂ (λ (c : Bool) (cs : List Bool). c ∷ cs) (kept-right b x y) (masked-right bits xs ys (omega arith))

  pub under-left : (mask : Option (List Bool)) (xs ys : List Row) → HasBits (length xs) mask → zip2 (both test) (rows_under mask xs) ys ≡ under mask (zip2 (both test) xs ys)
  under-left None xs ys bits = refl
  under-left (Some present) xs ys bits = masked-left present xs ys bits

  pub under-right : (mask : Option (List Bool)) (xs ys : List Row) → HasBits (length ys) mask → zip2 (both test) xs (rows_under mask ys) ≡ under mask (zip2 (both test) xs ys)
  under-right None xs ys bits = refl
  under-right (Some present) xs ys bits = masked-right present xs ys bits

  module _ {A : Type 0} (value : A → ℤ) (holds : A → A → Bool) (law : (x y : A) → holds x y ≡ test (Int (value x)) (Int (value y))) where
    pub present-rows : (l r : Option (List Bool)) (xs ys : List A) → HasBits (length xs) l → HasBits (length ys) r → under r (under l (zip2 holds xs ys)) ≡ zip2 (both test) (rows_under l (number_slots value xs)) (rows_under r (number_slots value ys))
    present-rows l r xs ys left right =
        let us = number_slots value xs in
        let vs = number_slots value ys in
        ap (λ bits. under r (under l bits)) (zip2-slots value holds (both test) law xs ys)
        ∙ ap (under r) (sym (under-left l us vs (slot-bits value xs l left)))
        ∙ sym (under-right r (rows_under l us) vs (slot-bits value ys r right))

-- ---- rows that are compared with one

-- equality with a number holds of no null
pub equal-present : (n : ℤ) (x : Row) → both same_row x (Int n) ≡ same_row x (Int n)
equal-present n Null = refl
equal-present n (Int m) = refl
equal-present n (Truth m) = refl
equal-present n (Bytes m) = refl
equal-present n (Rows m) = refl
equal-present n (Fields m) = refl
equal-present n (Entry m) = refl

pub equal-rows : (n : ℤ) (rows : List Row) → map (λ x. both same_row x (Int n)) rows ≡ map (λ x. same_row x (Int n)) rows
equal-rows n [] = refl
equal-rows n (x ∷ rows) =
    ap₂ (λ (c : Bool) (cs : List Bool). c ∷ cs) (equal-present n x) (equal-rows n rows)

pub unequal-rows : (n : ℤ) (rows : List Row) → map not (map (λ x. both same_row x (Int n)) rows) ≡ map (λ x. other_row x (Int n)) rows
unequal-rows n [] = refl
unequal-rows n (x ∷ rows) =
    ap₂ (λ (c : Bool) (cs : List Bool). c ∷ cs) (ap not (equal-present n x)) (unequal-rows n rows)

module _ (test : Row → Row → Bool) (y : Row) where
  masked-with : (bits : List Bool) (xs : List Row) → length bits ≡ length xs → map (λ x. both test x y) (masked bits xs) ≡ zip2 ◌&&◌ (map (λ x. both test x y) xs) bits
  masked-with [] [] e = refl
  masked-with [] (x ∷ xs) e = absurd (omega arith)
  masked-with (b ∷ bits) [] e = refl
  masked-with (b ∷ bits) (x ∷ xs) e =
      ap₂ (λ (c : Bool) (cs : List Bool). c ∷ cs) (kept-left test b x y) (masked-with bits xs (omega arith))

  under-with : (mask : Option (List Bool)) (xs : List Row) → HasBits (length xs) mask → map (λ x. both test x y) (rows_under mask xs) ≡ under mask (map (λ x. both test x y) xs)
  under-with None xs bits = refl
  under-with (Some present) xs bits = masked-with present xs bits

module _ {A : Type 0} (value : A → ℤ) (holds : A → A → Bool) (test : Row → Row → Bool) (law : (x y : A) → holds x y ≡ test (Int (value x)) (Int (value y))) (y : A) where
  stored-with : (xs : List A) → map (λ x. holds x y) xs ≡ map (λ x. both test x (Int (value y))) (number_slots value xs)
  stored-with [] = refl
  stored-with (x ∷ xs) = ap₂ (λ (c : Bool) (cs : List Bool). c ∷ cs) (law x y) (stored-with xs)

  pub present-with : (mask : Option (List Bool)) (xs : List A) → HasBits (length xs) mask → under mask (map (λ x. holds x y) xs) ≡ map (λ x. both test x (Int (value y))) (rows_under mask (number_slots value xs))
  present-with mask xs bits =
      ap (under mask) (stored-with xs)
      ∙ sym (under-with test (Int (value y)) mask (number_slots value xs) (slot-bits value xs mask bits))
