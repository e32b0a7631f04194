-- Worked examples of the definitions: the check computes both sides of each.
use Rattle.std.specs.Prelude.{◌≡◌, pos, true, false, [], ◌∷◌, Some, None, refl}
use Rattle.polars_arrays_flat.specs.Kind.{BooleanKind, Int8Kind}
use Rattle.polars_arrays_flat.specs.Row.{Null, Int, Truth, Bytes, Entry}
use Rattle.polars_compare.specs.OrderLaws.{have_order}
use Rattle.polars_compare.specs.RowsLaws.{Stored, rows_of}
use Rattle.polars_compare.specs.Types.{Always, Kinds, OneType}

have_order-bytes : have_order (Bytes []) (Bytes (7 ∷ [])) ≡ true
have_order-bytes = refl

have_order-mixed : have_order (Int (pos 1)) (Truth true) ≡ false
have_order-mixed = refl

have_order-null : have_order Null (Int (pos 1)) ≡ false
have_order-null = refl

have_order-entries : have_order (Entry (Int (pos 1))) (Entry (Int (pos 1))) ≡ false
have_order-entries = refl

one_type-always : OneType Always
one_type-always = tt

one_type-kinds : OneType (Kinds Int8Kind Int8Kind)
one_type-kinds = refl

one_type-other : OneType (Kinds Int8Kind BooleanKind) → ⊥
one_type-other e = cc

-- 1 and a null over 9
abbrev over_nine : Stored
over_nine = record { slots = Int (pos 1) ∷ Int (pos 9) ∷ []; mask = Some (true ∷ false ∷ []); bits = refl }

-- 1 and a stored Null, without a validity
abbrev stored_null : Stored
stored_null = record { slots = Int (pos 1) ∷ Null ∷ []; mask = None; bits = tt }

rows_of-two_ways : rows_of over_nine ≡ rows_of stored_null
rows_of-two_ways = refl
