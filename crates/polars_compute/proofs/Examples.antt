-- Worked examples of the definitions: the check computes both sides of each.
use Rattle.std.proofs.Common.{arith}
use Rattle.std.specs.Prelude.{◌≡◌, ◌*ℤ◌, pos, negsuc, true, false, [], ◌∷◌, Some, None, Ok, Err, refl}
use Rattle.std.specs.List.{list_all}
use Rattle.polars_arrays_bits.specs.declared.error.ComputeError.TheVariants.{Unsupported}
use Rattle.polars_arrays_flat.specs.Kind.{Int8Kind}
use Rattle.polars_arrays_flat.specs.Row.{Null, Int}
use Rattle.polars_compare_extremes.specs.declared.scalar.AnyScalar.TheVariants.{Int8}
use Rattle.polars_compute.proofs.QuotientLaws.{floor-is_greatest, truncated-is_nearest}
use Rattle.polars_compute.specs.QuotientLaws.{HasSignOf, IsFromZeroTo, IsGreatestNotAbove, IsNearestTowardZero, IsNotAbove, IsRest, distance}
use Rattle.polars_compute.specs.ReductionLaws.{IsReduction, IsSum, both, scalar_told, told}

-- 100 and 100 add up to 200, which is -56 in eight bits
sum-wraps : IsSum (negsuc 127) 8 (Int (pos 100) ∷ Null ∷ Int (pos 100) ∷ []) (negsuc 55)
sum-wraps = refl

-- of 6 and 3 the middle one of three bits is 1 in both
both-have : IsReduction (list_all (λ b. b)) 3 (Int (pos 6) ∷ Null ∷ Int (pos 3) ∷ []) (Some (false ∷ true ∷ false ∷ []))
both-have = refl

none-to-reduce : IsReduction (list_all (λ b. b)) 3 (Null ∷ []) None
none-to-reduce = refl

both-rows : both Int (pos 1, pos 2) ≡ (Int (pos 1), Int (pos 2))
both-rows = refl

scalar-told : scalar_told (Int8 (pos 5)) ≡ (Int8Kind, Int (pos 5))
scalar-told = refl

found-told : told scalar_told (Ok (Some (Int8 (pos 5)))) ≡ Ok (Some (Int8Kind, Int (pos 5)))
found-told = refl

none-told : told scalar_told (Ok None) ≡ Ok None
none-told = refl

error-told : told scalar_told (Err Unsupported) ≡ Err Unsupported
error-told = refl

-- 7 / -2 is between -4 and -3
four-not_above : IsNotAbove (negsuc 3) (pos 7) (negsuc 1)
four-not_above = omega arith

three-above : IsNotAbove (negsuc 2) (pos 7) (negsuc 1) → ⊥
three-above h = omega arith

four-greatest : IsGreatestNotAbove (negsuc 3) (pos 7) (negsuc 1)
four-greatest = (floor-is_greatest (pos 7) (negsuc 1) (negsuc 3) (λ e. cc)).0 refl

three-nearest : IsNearestTowardZero (negsuc 2) (pos 7) (negsuc 1)
three-nearest = (truncated-is_nearest (pos 7) (negsuc 1) (negsuc 2) (λ e. cc)).0 refl

-- times -2, -3 is 1 from 7, and -4 is past it
three-distance : distance (negsuc 2) (pos 7) (negsuc 1) ≡ 1
three-distance = refl

three-from_zero : IsFromZeroTo (pos 7) (negsuc 2 *ℤ negsuc 1)
three-from_zero = (omega arith, omega arith)

four-past : IsFromZeroTo (pos 7) (negsuc 3 *ℤ negsuc 1) → ⊥
four-past h = omega arith

-- -4 times -2 leaves -1 of 7
one-has_sign : HasSignOf (negsuc 1) (negsuc 0)
one-has_sign = omega arith

one-rest : IsRest (negsuc 0) (pos 7) (negsuc 1)
one-rest = record { left = (negsuc 3, refl); sign = omega arith; smaller = omega arith }
