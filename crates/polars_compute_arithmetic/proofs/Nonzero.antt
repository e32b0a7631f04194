-- Rows that are not 0, found by a comparison with 0.
use Rattle.std.proofs.Common.{◌≡◌, ◌<◌, ◌↔◌, ◌∙◌, ◌&&◌, ℕ, zero, suc, Bool, true, false, IsTrue, List, length, replicate, refl, sym, ap, subst, arith}
use Rattle.std.specs.Prelude.{ℤ, pos, negsuc, Option, Some, None, slice_index_or, ⊤}
use Rattle.std.proofs.lemmas.List.{get_or-map, get_or-replicate, length-map}
use Rattle.polars_arrays_flat.specs.Row.{Null, Int}
use Rattle.polars_arrays_flat.specs.StoredRows.{number_slots, row}
use Rattle.polars_arrays_flat.specs.Validity.{HasBits, is_present}
use Rattle.polars_compare_leaves.specs.Equality.{RawEquality}
use Rattle.polars_compute_arithmetic.proofs.Joined.{joined-bits}
use Rattle.polars_compute_arithmetic.proofs.Places.{joined-present}
use Rattle.polars_compute_arithmetic.specs.Maps.{joined_validity}
use Rattle.polars_compute_arithmetic.specs.Zeros.{is_nonzero}

told-nonzero : (b : Bool) (n : ℤ) → (b ≡ false) ↔ (⊤ × (Int n ≡ Int (pos 0))) → b ≡ is_nonzero n
told-nonzero true (pos zero) h = h.1 (tt, refl)
told-nonzero true (pos (suc n)) h = refl
told-nonzero true (negsuc n) h = refl
told-nonzero false (pos zero) h = refl
told-nonzero false (pos (suc n)) h = let e = (h.0 refl).1 in cc
told-nonzero false (negsuc n) h = let e = (h.0 refl).1 in cc

both-where : (b q r : Bool) → (b ≡ true → q ≡ r) → (b && q) ≡ (b && r)
both-where true q r h = h refl
both-where false q r h = refl

module _ {A : Type 0} (value : A → ℤ) (xs : List A) (z : ℤ) (is_zero : z ≡ pos 0) (v : Option (List Bool)) (bits : List Bool)
    (told : RawEquality false ⊤ v None (number_slots value xs) (replicate (length (number_slots value xs)) (Int z)) bits) where
  pub nonzero-long : length bits ≡ length xs
  nonzero-long = told.size ∙ length-map xs (λ (x : A). Int (value x))

  nonzero-at : (i : ℕ) (x : A) → i < length xs → x ≡ slice_index_or xs i x → is_present v i ≡ true → slice_index_or bits i false ≡ is_nonzero (value x)
  nonzero-at i x h e p =
      let within : i < length (number_slots value xs) = omega (arith, length-map xs (λ (x : A). Int (value x))) in
      let stored : row (number_slots value xs) i ≡ Int (value x) = get_or-map (λ (y : A). Int (value y)) xs i x Null h ∙ ap (λ (y : A). Int (value y)) (sym e) in
      let scalar : row (replicate (length (number_slots value xs)) (Int z)) i ≡ Int (pos 0) = get_or-replicate (length (number_slots value xs)) i (Int z) Null within ∙ ap Int is_zero in
      let same = told.at_present i within (subst (λ (b : Bool). IsTrue b) (sym p) refl) refl in
      told-nonzero (slice_index_or bits i false) (value x) (rw (stored, scalar) at same)

  -- the validity joined with these bits says where a row is present and not 0
  pub nonzero-present : HasBits (length xs) v → (i : ℕ) (x : A) → i < length xs → x ≡ slice_index_or xs i x → is_present (joined_validity v (Some bits)) i ≡ (is_present v i && is_nonzero (value x))
  nonzero-present hv i x h e =
      joined-present (length xs) v (Some bits) i hv nonzero-long
      ∙ both-where (is_present v i) (slice_index_or bits i false) (is_nonzero (value x)) (nonzero-at i x h e)

  pub nonzero-bits : HasBits (length xs) v → HasBits (length xs) (joined_validity v (Some bits))
  nonzero-bits hv = joined-bits _ _ v (Some bits) refl hv nonzero-long
