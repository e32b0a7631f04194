-- Worked examples of the definitions: the check computes both sides of each.
use Rattle.std.specs.Prelude.{◌≡◌, ◌^◌, ℕ, pos, negsuc, true, false, [], ◌∷◌, Some, None, refl}
use Rattle.std.proofs.Common.{◌<◌, zero, suc, arith}
use Rattle.polars_arrays_flat.specs.Kind.{Int32Kind, ListKind, LargeListKind}
use Rattle.polars_arrays_flat.specs.Row.{Null, Int, Rows, Entry, no_rows, more_rows}
use Rattle.polars_arrays_nested.specs.AnyRows.{across, row, rows, rows_from}
use Rattle.polars_arrays_nested.specs.DictKeys.{key_at, key_places, IsFirstBadKey, IsGoodKey}
use Rattle.polars_arrays_nested.specs.Faults.{Fits}
use Rattle.polars_arrays_nested.specs.Flat.{is_flat}
use Rattle.polars_arrays_nested.specs.GoodParts.{AreFixedLists}
use Rattle.polars_arrays_nested.specs.KeptAlike.{KeptAlike}
use Rattle.polars_arrays_nested.specs.Leaves.{leaves, leaves_across, total}
use Rattle.polars_arrays_nested.specs.Lengths.{len_of}
use Rattle.polars_arrays_nested.specs.ListOffsets.{list_count, offset_at, span}
use Rattle.polars_arrays_nested.specs.Masks.{mask_of}
use Rattle.polars_arrays_nested.specs.Types.{kind_of_lists, type_of}
use Rattle.polars_arrays_nested.specs.declared.any_array.AnyArray.{AnyArray, Int32, List', FixedSizeList', Dictionary', end_of-AnyArray, more_of-AnyArray}
use Rattle.polars_arrays_nested.specs.declared.any_array.AnyArray.{Null as Nulls}
use Rattle.polars_arrays_nested.specs.declared.dict_keys.DictKeys.TheVariants.{Int8, UInt8}
use Rattle.polars_arrays_nested.specs.declared.list_offsets.ListOffsets.TheVariants.{Small, Large}

-- three numbers, the second of them masked
some : AnyArray
some =
    Int32 (record { values = pos 7 ∷ pos 8 ∷ pos 9 ∷ []; validity = Some (true ∷ false ∷ true ∷ []); owned = true })

len_of-some : len_of some ≡ 3
unfolding some
len_of-some = refl

rows-some : rows some ≡ Int (pos 7) ∷ Null ∷ Int (pos 9) ∷ []
unfolding some
rows-some = refl

row-past_end : row some 3 ≡ Null
unfolding some
row-past_end = refl

type_of-some : type_of some ≡ Int32Kind
unfolding some
type_of-some = refl

-- the leaf slots of a window are its rows, masked ones too; nulls have none
leaves-some : leaves some 1 2 ≡ 2
unfolding some
leaves-some = refl

leaves-nulls : leaves (Nulls 5) 1 2 ≡ 0
leaves-nulls = refl

rows-nulls : rows (Nulls 2) ≡ Null ∷ Null ∷ []
rows-nulls = refl

-- a list's items are the rows between its offsets
rows_from-two : rows_from (row some) 1 2 ≡ more_rows Null (more_rows (Int (pos 9)) no_rows)
unfolding some
rows_from-two = refl

-- lists: two items, a null over no items, and an empty one
rows-lists : (p : _) → rows (List' (Small (record { items = pos 1 ∷ pos 3 ∷ pos 3 ∷ pos 3 ∷ []; owned = true })) p some (Some (true ∷ false ∷ true ∷ [])))
    ≡ Rows (more_rows Null (more_rows (Int (pos 9)) no_rows)) ∷ Null ∷ Rows no_rows ∷ []
unfolding some
rows-lists p = refl

-- the leaf slots of lists are those of their items; here the first item is in no list
leaves-lists : (p : _) → leaves (List' (Small (record { items = pos 1 ∷ pos 3 ∷ pos 3 ∷ []; owned = true })) p some None) 0 2 ≡ 2
unfolding some
leaves-lists p = refl

rows-fixed_lists : (p : _) → rows (FixedSizeList' 3 1 p some None) ≡ Rows (more_rows (Int (pos 7)) (more_rows Null (more_rows (Int (pos 9)) no_rows))) ∷ []
unfolding some
rows-fixed_lists p = refl

-- lists without items are rows, and cost nothing
rows-of_width_0 : (p : _) → rows (FixedSizeList' 0 2 p (Nulls 0) (Some (true ∷ false ∷ []))) ≡ Rows no_rows ∷ Null ∷ []
rows-of_width_0 p = refl

leaves-fixed_lists : (p : _) → leaves (FixedSizeList' 3 1 p some None) 0 1 ≡ 3
unfolding some
leaves-fixed_lists p = refl

-- the fields of a struct's row are the rows of its columns there
across-two : across (more_of-AnyArray some (more_of-AnyArray (Nulls 3) end_of-AnyArray)) 2 ≡ more_rows (Int (pos 9)) (more_rows Null no_rows)
unfolding some
across-two = refl

-- and its leaf slots those of its columns
leaves_across-two : leaves_across (more_of-AnyArray some (more_of-AnyArray some (more_of-AnyArray (Nulls 3) end_of-AnyArray))) 1 2 ≡ 4
unfolding some
leaves_across-two = refl

-- a present key to a null entry is null; a masked key may be anything
rows-dictionary : (p : _) → rows (Dictionary' (UInt8 (record { values = 2 ∷ 99 ∷ 1 ∷ []; validity = Some (true ∷ false ∷ true ∷ []); owned = true })) p some)
    ≡ Entry (Int (pos 9)) ∷ Null ∷ Null ∷ []
unfolding some
rows-dictionary p = refl

-- its mask says so, though the validity leaves the last key
mask-dictionary : (p : _) → mask_of (Dictionary' (UInt8 (record { values = 2 ∷ 99 ∷ 1 ∷ []; validity = Some (true ∷ false ∷ true ∷ []); owned = true })) p some)
    ≡ Some (true ∷ false ∷ false ∷ [])
unfolding some
mask-dictionary p = refl

-- a dictionary of a dictionary is followed to its last entry
mask-two_levels : (p q : _) → mask_of (Dictionary' (Int8 (record { values = pos 0 ∷ pos 1 ∷ []; validity = None; owned = true })) p
    (Dictionary' (UInt8 (record { values = 1 ∷ 2 ∷ []; validity = None; owned = true })) q some)) ≡ Some (false ∷ true ∷ [])
unfolding some
mask-two_levels p q = refl

-- keys to nulls make nulls, though a null array itself masks none
mask-of_nulls : (p : _) → mask_of (Dictionary' (UInt8 (record { values = 0 ∷ []; validity = None; owned = true })) p (Nulls 1)) ≡ Some (false ∷ [])
mask-of_nulls p = refl

mask-nulls : mask_of (Nulls 1) ≡ None
mask-nulls = refl

-- an entry's leaf slots count once for each present key
leaves-dictionary : (p : _) → leaves (Dictionary' (UInt8 (record { values = 2 ∷ 99 ∷ 2 ∷ []; validity = Some (true ∷ false ∷ true ∷ []); owned = true })) p some) 0 3 ≡ 2
unfolding some
leaves-dictionary p = refl

list_count-none : list_count (Small (record { items = []; owned = true })) ≡ 0
list_count-none = refl

list_count-two : list_count (Large (record { items = pos 0 ∷ pos 2 ∷ pos 2 ∷ []; owned = true })) ≡ 2
list_count-two = refl

-- the first offset need not be 0, and a list may be empty
span-later : span (Small (record { items = pos 1 ∷ pos 3 ∷ pos 3 ∷ []; owned = true })) 0 ≡ 2
span-later = refl

span-empty : span (Small (record { items = pos 1 ∷ pos 3 ∷ pos 3 ∷ []; owned = true })) 1 ≡ 0
span-empty = refl

offset_at-negative : offset_at (Small (record { items = negsuc 0 ∷ []; owned = true })) 0 ≡ 0
offset_at-negative = refl

kind_of_lists-small : kind_of_lists (Small (record { items = []; owned = true })) Int32Kind ≡ ListKind Int32Kind
kind_of_lists-small = refl

kind_of_lists-large : kind_of_lists (Large (record { items = []; owned = true })) Int32Kind ≡ LargeListKind Int32Kind
kind_of_lists-large = refl

-- 2 ^ 63 items twice are not none: the product is that of whole numbers
AreFixedLists-wide : ¬ (AreFixedLists 0 (2 ^ 63) 2 None)
AreFixedLists-wide lists = absurd (omega (arith, lists.items))

AreFixedLists-no_width : AreFixedLists 0 0 3 None
AreFixedLists-no_width = record { bits = tt; items = refl }

key_at-second : key_at (UInt8 (record { values = 0 ∷ 2 ∷ []; validity = None; owned = true })) 1 ≡ 2
key_at-second = refl

key_places-negative : key_places (Int8 (record { values = negsuc 4 ∷ pos 1 ∷ []; validity = None; owned = true })) ≡ None ∷ Some 1 ∷ []
key_places-negative = refl

-- the key -5 under a null is good, and is not where it is present
IsGoodKey-masked : IsGoodKey 2 (Some (false ∷ [])) (None ∷ []) 0
IsGoodKey-masked present = let e : ⊥ = cc in e

IsGoodKey-present : ¬ (IsGoodKey 2 None (None ∷ []) 0)
IsGoodKey-present good = good refl

IsFirstBadKey-second : IsFirstBadKey 2 None (Some 1 ∷ Some 2 ∷ []) 1
IsFirstBadKey-second = record {
  within = omega arith;
  bad = λ good. absurd (omega (arith, good refl));
  before = first;
}
  where
    first : (k : ℕ) → k < 1 → IsGoodKey 2 None (Some 1 ∷ Some 2 ∷ []) k
    first zero below present = omega arith
    first (suc k) below present = absurd (omega (arith, below))

-- past the end of both lists there is nothing to fit
Fits-past : Fits 3 None None
Fits-past = tt

-- an entry counts once for each present row that names it
total-three : total (λ k. k) 2 3 ≡ 9
total-three = refl

-- nulls and numbers are kept alike wherever their windows lie, and never with an array of another kind
KeptAlike-numbers : KeptAlike some some 0 1 2
unfolding some
KeptAlike-numbers = tt

KeptAlike-others : ¬ (KeptAlike some (Nulls 3) 0 0 1)
unfolding some
KeptAlike-others alike = alike

-- the first list of one array and the second of the other: two items each
KeptAlike-lists : (p q : _) → KeptAlike (List' (Small (record { items = pos 0 ∷ pos 2 ∷ []; owned = true })) p some None) (List' (Small (record { items = pos 0 ∷ pos 1 ∷ pos 3 ∷ []; owned = true })) q some None) 0 1 1
unfolding some
KeptAlike-lists p q zero low = record { masks = refl; spans = refl; items = tt }
KeptAlike-lists p q (suc k) low = absurd (omega (arith, low))

-- numbers hold no arrays, a dictionary does
is_flat-some : is_flat some ≡ true
unfolding some
is_flat-some = refl

is_flat-dictionary : (k p : _) → is_flat (Dictionary' k p some) ≡ false
is_flat-dictionary k p = refl
