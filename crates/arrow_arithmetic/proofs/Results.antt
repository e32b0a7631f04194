-- Results under the bits that say which are present are the results of the rows.
use Rattle.std.proofs.Common.{◌≡◌, ◌↔◌, ◌∙◌, ◌&&◌, zero, suc, Bool, true, false, not, IsTrue, List, [], ◌∷◌, Option, Some, None, map, refl, sym, ap, ap₂}
use Rattle.std.specs.Prelude.{ℤ, pos, negsuc}
use Rattle.std.specs.Simd.Lanes.{zip2}
use Rattle.std.proofs.lemmas.Simd.{map-map}
use Rattle.arrow_arithmetic.specs.Answers.{beside_of, has_result, is_answered, lefts_of, rights_of}
use Rattle.arrow_arithmetic.specs.Arithmetic.{function_of, operation_of, placed}
use Rattle.arrow_arithmetic.specs.declared.calculating.Arithmetic.{Arithmetic}
use Rattle.arrow_arithmetic.specs.declared.calculating.Arithmetic.TheVariants.{Add, Subtract, Multiply, FloorDivide, TruncatingDivide, Modulo}
use Rattle.arrow_arithmetic.specs.declared.calculating.Side.{Side}
use Rattle.arrow_arithmetic.specs.declared.calculating.Side.TheVariants.{Left, Right}
use Rattle.arrow_arithmetic.specs.declared.calculating.Sign.{Sign}
use Rattle.arrow_arithmetic.specs.declared.calculating.Sign.TheVariants.{Negate, Absolute}
use Rattle.arrow_columns.specs.Comparing.{under}
use Rattle.polars_arrays_flat.specs.Row.{Row, Null, Int, Truth, Bytes, Rows, Fields, Entry}
use Rattle.polars_arrays_flat.specs.StoredRows.{kept, masked, number_slots, rows_under}
use Rattle.polars_arrays_numbers.specs.Wrapping.{wrapped}
use Rattle.polars_compute_arithmetic.specs.Operations.{Function, Operation, answer_row, answer_rows, on_row, or_zero, result_row, result_rows}
use Rattle.polars_compute_arithmetic.specs.Zeros.{is_nonzero}

-- ---- the numbers for which there is a result

pub rights-law : (arithmetic : Arithmetic) (a b : ℤ) → has_result (operation_of arithmetic a b) ≡ is_answered (rights_of arithmetic) b
rights-law Add a b = refl
rights-law Subtract a b = refl
rights-law Multiply a b = refl
rights-law FloorDivide a (pos zero) = refl
rights-law FloorDivide a (pos (suc n)) = refl
rights-law FloorDivide a (negsuc n) = refl
rights-law TruncatingDivide a (pos zero) = refl
rights-law TruncatingDivide a (pos (suc n)) = refl
rights-law TruncatingDivide a (negsuc n) = refl
rights-law Modulo a (pos zero) = refl
rights-law Modulo a (pos (suc n)) = refl
rights-law Modulo a (negsuc n) = refl

lefts-law : (zero : Bool) (arithmetic : Arithmetic) (a b : ℤ) → not zero ≡ is_nonzero b → has_result (operation_of arithmetic a b) ≡ is_answered (lefts_of zero arithmetic) a
lefts-law true Add a b e = refl
lefts-law true Subtract a b e = refl
lefts-law true Multiply a b e = refl
lefts-law true FloorDivide a b e = rights-law FloorDivide a b ∙ sym e
lefts-law true TruncatingDivide a b e = rights-law TruncatingDivide a b ∙ sym e
lefts-law true Modulo a b e = rights-law Modulo a b ∙ sym e
lefts-law false Add a b e = refl
lefts-law false Subtract a b e = refl
lefts-law false Multiply a b e = refl
lefts-law false FloorDivide a b e = rights-law FloorDivide a b ∙ sym e
lefts-law false TruncatingDivide a b e = rights-law TruncatingDivide a b ∙ sym e
lefts-law false Modulo a b e = rights-law Modulo a b ∙ sym e

pub beside-law : (side : Side) (is_zero : Bool) (arithmetic : Arithmetic) (n a : ℤ) → not is_zero ≡ is_nonzero n → has_result (placed side (operation_of arithmetic) n a) ≡ is_answered (beside_of side is_zero arithmetic) a
beside-law Left is_zero arithmetic n a e = rights-law arithmetic n a
beside-law Right is_zero arithmetic n a e = lefts-law is_zero arithmetic a n e

-- whether a number is 0, told by a test
pub is_nonzero-not : (zero : Bool) (n : ℤ) → IsTrue zero ↔ (n ≡ pos 0) → not zero ≡ is_nonzero n
is_nonzero-not true (pos zero) h = refl
is_nonzero-not true (pos (suc n)) h = let e = h.0 refl in cc
is_nonzero-not true (negsuc n) h = let e = h.0 refl in cc
is_nonzero-not false (pos zero) h = let e = h.1 refl in cc
is_nonzero-not false (pos (suc n)) h = refl
is_nonzero-not false (negsuc n) h = refl

pub signs-law : (sign : Sign) (a : ℤ) → has_result (function_of sign a) ≡ true
signs-law Negate a = refl
signs-law Absolute a = refl

-- ---- masks

kept-both : (b p : Bool) (row : Row) → kept (b && p) row ≡ kept p (kept b row)
kept-both true true row = refl
kept-both true false row = refl
kept-both false true row = refl
kept-both false false row = refl

masked-none : (present : List Bool) → [] ≡ masked present []
masked-none [] = refl
masked-none (p ∷ present) = refl

masked-both : (bits present : List Bool) (rows : List Row) → masked (zip2 ◌&&◌ bits present) rows ≡ masked present (masked bits rows)
masked-both [] present rows = masked-none present
masked-both (b ∷ bits) [] rows = refl
masked-both (b ∷ bits) (p ∷ present) [] = refl
masked-both (b ∷ bits) (p ∷ present) (row ∷ rows) =
    ap₂ (λ (r : Row) (rs : List Row). r ∷ rs) (kept-both b p row) (masked-both bits present rows)

-- bits under a mask mask one after another
masked-under : (mask : Option (List Bool)) (bits : List Bool) (rows : List Row) → masked (under mask bits) rows ≡ rows_under mask (masked bits rows)
masked-under None bits rows = refl
masked-under (Some present) bits rows = masked-both bits present rows

module _ (f : Row → Row) (null : f Null ≡ Null) where
  kept-each : (b : Bool) (x : Row) → f (kept b x) ≡ kept b (f x)
  kept-each true x = refl
  kept-each false x = null

  masked-each : (bits : List Bool) (xs : List Row) → map f (masked bits xs) ≡ masked bits (map f xs)
  masked-each [] xs = refl
  masked-each (b ∷ bits) [] = refl
  masked-each (b ∷ bits) (x ∷ xs) =
      ap₂ (λ (r : Row) (rs : List Row). r ∷ rs) (kept-each b x) (masked-each bits xs)

  under-each : (mask : Option (List Bool)) (xs : List Row) → map f (rows_under mask xs) ≡ rows_under mask (map f xs)
  under-each None xs = refl
  under-each (Some present) xs = masked-each present xs

module _ (f : Row → Row → Row) (null : (y : Row) → f Null y ≡ Null) where
  kept-left : (b : Bool) (x y : Row) → f (kept b x) y ≡ kept b (f x y)
  kept-left true x y = refl
  kept-left false x y = null y

  masked-left : (bits : List Bool) (xs ys : List Row) → zip2 f (masked bits xs) ys ≡ masked bits (zip2 f xs ys)
  masked-left [] xs ys = refl
  masked-left (b ∷ bits) [] ys = refl
  masked-left (b ∷ bits) (x ∷ xs) [] = refl
  masked-left (b ∷ bits) (x ∷ xs) (y ∷ ys) =
      ap₂ (λ (r : Row) (rs : List Row). r ∷ rs) (kept-left b x y) (masked-left bits xs ys)

  under-left : (mask : Option (List Bool)) (xs ys : List Row) → zip2 f (rows_under mask xs) ys ≡ rows_under mask (zip2 f xs ys)
  under-left None xs ys = refl
  under-left (Some present) xs ys = masked-left present xs ys

module _ (f : Row → Row → Row) (null : (x : Row) → f x Null ≡ Null) where
  kept-right : (b : Bool) (x y : Row) → f x (kept b y) ≡ kept b (f x y)
  kept-right true x y = refl
  kept-right false x y = null x

  masked-right : (bits : List Bool) (xs ys : List Row) → zip2 f xs (masked bits ys) ≡ masked bits (zip2 f xs ys)
  masked-right bits [] ys = masked-none bits
  masked-right [] (x ∷ xs) ys = refl
  masked-right (b ∷ bits) (x ∷ xs) [] = refl
  masked-right (b ∷ bits) (x ∷ xs) (y ∷ ys) =
      ap₂ (λ (r : Row) (rs : List Row). r ∷ rs) (kept-right b x y) (masked-right bits xs ys)

  under-right : (mask : Option (List Bool)) (xs ys : List Row) → zip2 f xs (rows_under mask ys) ≡ rows_under mask (zip2 f xs ys)
  under-right None xs ys = refl
  under-right (Some present) xs ys = masked-right present xs ys

-- ---- results

right-null : (least : ℤ) (width : _) (op : Operation) (x : Row) → result_row least width op x Null ≡ Null
right-null least width op Null = refl
right-null least width op (Int a) = refl
right-null least width op (Truth b) = refl
right-null least width op (Bytes bs) = refl
right-null least width op (Rows rs) = refl
right-null least width op (Fields rs) = refl
right-null least width op (Entry r) = refl

-- a stored result that is kept where there is one
answered : (least : ℤ) (width : _) (o : Option ℤ) (p : Bool) → has_result o ≡ p → kept p (Int (wrapped least width (or_zero o))) ≡ answer_row least width o
answered least width None p e = ap (λ (b : Bool). kept b (Int (wrapped least width (pos zero)))) (sym e)
answered least width (Some a) p e = ap (λ (b : Bool). kept b (Int (wrapped least width a))) (sym e)

module _ {A : Type 0} (value : A → ℤ) (least : ℤ) (width : _) where
  stored-pairs : (op : Operation) (has : A → Bool) → ((a : ℤ) (y : A) → has_result (op a (value y)) ≡ has y) → (xs ys : List A)
      → masked (map has ys) (map Int (zip2 (λ x y. wrapped least width (or_zero (op (value x) (value y)))) xs ys)) ≡ zip2 (result_row least width op) (number_slots value xs) (number_slots value ys)
  stored-pairs op has law [] [] = refl
  stored-pairs op has law [] (y ∷ ys) = refl
  stored-pairs op has law (x ∷ xs) [] = refl
  stored-pairs op has law (x ∷ xs) (y ∷ ys) =
      ap₂ (λ (r : Row) (rs : List Row). r ∷ rs) (answered least width (op (value x) (value y)) (has y) (law (value x) y)) (stored-pairs op has law xs ys)

  -- results of an operation on two columns
  pub pair-rows : (op : Operation) (has : A → Bool) → ((a : ℤ) (y : A) → has_result (op a (value y)) ≡ has y) → (l r : Option (List Bool)) (xs ys zs : List A) (bits : List Bool)
      → bits ≡ under r (under l (map has ys)) → map value zs ≡ zip2 (λ x y. wrapped least width (or_zero (op (value x) (value y)))) xs ys
      → rows_under (Some bits) (number_slots value zs) ≡ result_rows least width op (rows_under l (number_slots value xs)) (rows_under r (number_slots value ys))
  pair-rows op has law l r xs ys zs bits is written =
      let f = result_row least width op in
      let us = number_slots value xs in
      let vs = number_slots value ys in
      let ns = map Int (zip2 (λ x y. wrapped least width (or_zero (op (value x) (value y)))) xs ys) in
      ap₂ masked is (sym (map-map Int value zs) ∙ ap (map Int) written)
      ∙ masked-under r (under l (map has ys)) ns
      ∙ ap (rows_under r) (masked-under l (map has ys) ns ∙ ap (rows_under l) (stored-pairs op has law xs ys) ∙ sym (under-left f (λ y. refl) l us vs))
      ∙ sym (under-right f (right-null least width op) r (rows_under l us) vs)

  stored-each : (f : Function) (has : A → Bool) → ((x : A) → has_result (f (value x)) ≡ has x) → (xs : List A)
      → masked (map has xs) (map Int (map (λ x. wrapped least width (or_zero (f (value x)))) xs)) ≡ map (on_row (λ a. answer_row least width (f a))) (number_slots value xs)
  stored-each f has law [] = refl
  stored-each f has law (x ∷ xs) =
      ap₂ (λ (r : Row) (rs : List Row). r ∷ rs) (answered least width (f (value x)) (has x) (law x)) (stored-each f has law xs)

  -- results of a function of the rows of a column
  pub each-rows : (f : Function) (has : A → Bool) → ((x : A) → has_result (f (value x)) ≡ has x) → (v : Option (List Bool)) (xs zs : List A) (bits : List Bool)
      → bits ≡ under v (map has xs) → map value zs ≡ map (λ x. wrapped least width (or_zero (f (value x)))) xs
      → rows_under (Some bits) (number_slots value zs) ≡ answer_rows least width f (rows_under v (number_slots value xs))
  each-rows f has law v xs zs bits is written =
      let ns = map Int (map (λ x. wrapped least width (or_zero (f (value x)))) xs) in
      ap₂ masked is (sym (map-map Int value zs) ∙ ap (map Int) written)
      ∙ masked-under v (map has xs) ns
      ∙ ap (rows_under v) (stored-each f has law xs)
      ∙ sym (under-each (on_row (λ a. answer_row least width (f a))) refl v (number_slots value xs))
