-- Rows that are masked are Null, and those that are present are not, but in a null array.
use Rattle.std.proofs.Common.{◌≡◌, ◌<◌, ℕ, Bool, true, false, not, refl, sym, ◌∙◌}
use Rattle.polars_arrays_flat.specs.ArrayRows.{is_null}
use Rattle.polars_arrays_flat.specs.Kind.{Kind, NullKind}
use Rattle.polars_arrays_flat.specs.Row.{Row, Int, Truth, Bytes, Rows, Fields, Entry}
use Rattle.polars_arrays_flat.specs.Row.{Null as Missing}
use Rattle.polars_arrays_flat.specs.Validity.{is_present}
use Rattle.polars_arrays_nested.specs.AnyRows.{row}
use Rattle.polars_arrays_nested.specs.GoodParts.{IsGood}
use Rattle.polars_arrays_nested.specs.Lengths.{len_of}
use Rattle.polars_arrays_nested.specs.MaskLaws.{presence-told}
use Rattle.polars_arrays_nested.specs.Masks.{mask_of}
use Rattle.polars_arrays_nested.specs.Types.{kind_of_lists, type_of}
use Rattle.polars_arrays_nested.specs.declared.any_array.AnyArray.{AnyArray, Null, List'}
use Rattle.polars_arrays_nested.specs.declared.list_offsets.ListOffsets.{ListOffsets}
use Rattle.polars_arrays_nested.specs.declared.list_offsets.ListOffsets.TheVariants.{Small, Large}

list_not_null : (offsets : ListOffsets) (item : Kind) → NullKind ≡ kind_of_lists offsets item → ⊥
list_not_null (Small offsets) item e = cc
list_not_null (Large offsets) item e = cc

-- an array of no type but nulls has no mask
null_unmasked : (x : AnyArray) (i : ℕ) → NullKind ≡ type_of x → is_present (mask_of x) i ≡ true
null_unmasked (Null a) i e = refl
null_unmasked (List' offsets p values validity) i e = absurd (list_not_null offsets (type_of values) e)
null_unmasked _ i e = cc

null_is : (x : Row) → false ≡ not (is_null x) → x ≡ Missing
null_is Missing h = refl
null_is (Int n) h = cc
null_is (Truth b) h = cc
null_is (Bytes xs) h = cc
null_is (Rows xs) h = cc
null_is (Fields xs) h = cc
null_is (Entry x) h = cc

not_null : (b : Bool) → true ≡ not b → b ≡ false
not_null false h = refl
not_null true h = cc

-- a masked row is Null
pub masked_null : (x : AnyArray) (i : ℕ) → IsGood x → i < len_of x → is_present (mask_of x) i ≡ false → row x i ≡ Missing
masked_null (Null a) i good low h = refl
masked_null x i good low h = null_is (row x i) (sym h ∙ presence-told x i good low)

-- a present row is not, where an array of the same type has a masked one
pub present_there : (x y : AnyArray) (i j : ℕ) → type_of x ≡ type_of y → IsGood x → i < len_of x → is_present (mask_of x) i ≡ true → is_present (mask_of y) j ≡ false → is_null (row x i) ≡ false
present_there (Null a) y i j e good low h k = (let unmasked = null_unmasked y j e in cc)
present_there x y i j e good low h k = not_null (is_null (row x i)) (sym h ∙ presence-told x i good low)
