-- The rows of counts.
use Rattle.std.proofs.Common.{◌≡◌, ◌<◌, ◌+◌, ◌∙◌, ℕ, Bool, true, false, List, [], ◌∷◌, ◌++◌, length, map, take, get_or, refl, sym, ap, ap₂}
use Rattle.std.specs.Prelude.{ℤ, pos, Option, None, Some}
use Rattle.std.proofs.lemmas.List.{map-append, take_more}
use Rattle.std.proofs.lemmas.Simd.{map-map}
use Rattle.polars_arrays_flat.specs.Row.{Row, Int}
use Rattle.polars_arrays_flat.specs.StoredRows.{kept, masked, number_slots, rows_under}
use Rattle.polars_compute_reductions.specs.Bitwise.{counted, number_bits}

-- an element more of a map
pub map_more : {A B : Type 0} (f : A → B) (xs : List A) (i : ℕ) (x : A) (items : List B) (y : B) → i < length xs → x ≡ get_or xs i x → items ≡ map f (take i xs) → y ≡ f x → items ++ y ∷ [] ≡ map f (take (i + 1) xs)
map_more f xs i x items y h is e v =
    ap₂ (λ front last. front ++ last ∷ []) e v
    ∙ sym (map-append f (take i xs) (x ∷ []))
    ∙ ap (λ z. map f (take i xs ++ z ∷ [])) is
    ∙ ap (map f) (sym (take_more xs i x h))

module _ (amount : List Bool → ℕ) (width : ℕ) where
  kept-counted : (bit : Bool) (row : Row) → kept bit (counted amount width row) ≡ counted amount width (kept bit row)
  kept-counted true row = refl
  kept-counted false row = refl

  masked-counted : (bits : List Bool) (rows : List Row) → masked bits (map (counted amount width) rows) ≡ map (counted amount width) (masked bits rows)
  masked-counted [] rows = refl
  masked-counted (bit ∷ bits) [] = refl
  masked-counted (bit ∷ bits) (row ∷ rows) = ap₂ (λ first rest. first ∷ rest) (kept-counted bit row) (masked-counted bits rows)

  pub under-counted : (validity : Option (List Bool)) (rows : List Row) → rows_under validity (map (counted amount width) rows) ≡ map (counted amount width) (rows_under validity rows)
  under-counted None rows = refl
  under-counted (Some bits) rows = masked-counted bits rows

  -- counts of stored numbers under a validity are the counts of the rows
  pub counted-rows : {A : Type 0} (value : A → ℤ) (validity : Option (List Bool)) (xs : List A) (counts : List ℕ) → counts ≡ map (λ x. amount (number_bits width (value x))) xs → rows_under validity (number_slots (λ n. pos n) counts) ≡ map (counted amount width) (rows_under validity (number_slots value xs))
  counted-rows value validity xs counts e =
      ap (λ ns. rows_under validity (number_slots (λ n. pos n) ns)) e
      ∙ ap (rows_under validity) (map-map (λ n. Int (pos n)) (λ x. amount (number_bits width (value x))) xs ∙ sym (map-map (counted amount width) (λ x. Int (value x)) xs))
      ∙ under-counted validity (number_slots value xs)
