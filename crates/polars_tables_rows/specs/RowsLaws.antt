-- Rows under a validity, by place.
use Rattle.std.proofs.Common.{◌≡◌, ◌<◌, ◌∙◌, ℕ, zero, suc, Bool, true, false, List, [], ◌∷◌, Option}
use Rattle.std.proofs.Common.{Some, None, length, map, get_or, refl, sym, ap, arith, slice_index_or}
use Rattle.std.specs.Prelude.{slice_get, unwrap_or}
use Rattle.std.proofs.lemmas.Option.{unwrap_or-slice_get, get_or_from_slice_get}
use Rattle.std.proofs.lemmas.List.{length-map}
use Rattle.polars_arrays_flat.specs.Row.{Row, Null}
use Rattle.polars_arrays_flat.specs.StoredRows.{row, kept, masked, rows_under}
use Rattle.polars_arrays_flat.specs.Validity.{HasBits, is_present}

-- a bit that may be past the end
pub bit-or_false : (bits : List Bool) (i : ℕ) → unwrap_or (slice_get bits i) false
    ≡ slice_index_or bits i false
bit-or_false bits i = unwrap_or-slice_get bits i false

pub map-at : {A B : Type 0} (f : A → B) (xs : List A) (i : ℕ) (a : A) (b : B) → i < length xs
    → slice_index_or (map f xs) i b ≡ f (slice_index_or xs i a)
map-at f [] i a b h = absurd (omega arith)
map-at f (x ∷ xs) zero a b h = refl
map-at f (x ∷ xs) (suc i) a b h = map-at f xs i a b (omega arith)

length-masked : (bits : List Bool) (rows : List Row) → length bits ≡ length rows
    → length (masked bits rows) ≡ length rows
length-masked [] [] e = refl
length-masked [] (x ∷ rows) e = absurd (omega arith)
length-masked (b ∷ bits) [] e = absurd (omega arith)
length-masked (b ∷ bits) (x ∷ rows) e = ap suc (length-masked bits rows (omega arith))

masked-at : (bits : List Bool) (rows : List Row) (i : ℕ) → length bits ≡ length rows
    → i < length rows → row (masked bits rows) i ≡ kept (slice_index_or bits i false) (row rows i)
masked-at [] [] i e h = absurd (omega arith)
masked-at [] (x ∷ rows) i e h = absurd (omega arith)
masked-at (b ∷ bits) [] i e h = absurd (omega arith)
masked-at (b ∷ bits) (x ∷ rows) zero e h = refl
masked-at (b ∷ bits) (x ∷ rows) (suc i) e h = masked-at bits rows i (omega arith) (omega arith)

-- the number of rows under a validity is that of stored rows
pub length-rows : (v : Option (List Bool)) (slots : List Row) → HasBits (length slots) v
    → length (rows_under v slots) ≡ length slots
length-rows None slots h = refl
length-rows (Some bits) slots h = length-masked bits slots h

-- each row is the stored one if it is present
pub row-at : (v : Option (List Bool)) (slots : List Row) (i : ℕ) → HasBits (length slots) v
    → i < length slots → row (rows_under v slots) i ≡ kept (is_present v i) (row slots i)
row-at None slots i h k = refl
row-at (Some bits) slots i h k = masked-at bits slots i h k

module _ {A : Type 0} (f : A → Row) (v : Option (List Bool)) (xs : List A) (i : ℕ)
    (bits : HasBits (length (map f xs)) v) (h : i < length (map f xs)) where
  -- a present row is its stored value
  pub value-present : (x : A) → is_present v i ≡ true → x ≡ get_or xs i x → f x
      ≡ row (rows_under v (map f xs)) i
  value-present x p e =
      let below : i < length xs = omega (arith, length-map xs f) in
      ap f e
      ∙ sym (map-at f xs i x Null below)
      ∙ ap (λ (b : Bool). kept b (row (map f xs) i)) (sym p)
      ∙ sym (row-at v (map f xs) i bits h)

  -- a row that is not present is Null
  pub value-masked : is_present v i ≡ false → Null ≡ row (rows_under v (map f xs)) i
  value-masked p =
      ap (λ (b : Bool). kept b (row (map f xs) i)) (sym p)
      ∙ sym (row-at v (map f xs) i bits h)

  pub value-read : (x : A) → is_present v i ≡ true → slice_get xs i ≡ Some x → f x
      ≡ row (rows_under v (map f xs)) i
  value-read x p e = value-present x p (sym (get_or_from_slice_get xs i x x e))

-- the number of stored values is that of rows
pub length-values : {A : Type 0} (f : A → Row) (v : Option (List Bool)) (xs : List A)
    → HasBits (length (map f xs)) v → length (map f xs) ≡ length (rows_under v (map f xs))
length-values f v xs h = sym (length-rows v (map f xs) h)
