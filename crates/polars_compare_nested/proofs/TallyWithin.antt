-- The comparisons are no more than the left array's leaf slots.
use Rattle.std.proofs.Common.{◌≡◌, ◌≤◌, ◌+◌, ◌-◌, ◌*◌, ◌&&◌, ℕ, zero, suc, eqb, Bool, true, false, cond, List, [], ◌∷◌, refl, arith}
use Rattle.std.specs.Prelude.{Option, Some, None}
use Rattle.std.proofs.Math.Nat.{mul-le-mul_left}
use Rattle.polars_arrays_bytes.specs.OffsetStrings.{AreGood, Bounds, place_at}
use Rattle.polars_arrays_flat.specs.Validity.{is_present}
use Rattle.polars_arrays_flat.specs.declared.data_type.Field.{Field}
use Rattle.polars_arrays_nested.specs.DictKeys.{IsEntry, NameEntries, key_at, key_count, key_places, key_validity}
use Rattle.polars_arrays_nested.specs.GoodParts.{AreFields}
use Rattle.polars_arrays_nested.specs.Leaves.{LeavesAddUp, leaves, leaves_across, total}
use Rattle.polars_arrays_nested.specs.Lengths.{len_of}
use Rattle.polars_arrays_nested.specs.ListOffsets.{list_count, list_places, offset_at, span}
use Rattle.polars_arrays_nested.specs.Places.{place_or_zero}
use Rattle.polars_arrays_nested.specs.declared.any_array.AnyArray.{AnyArray, Null, List', FixedSizeList', Struct', Dictionary', Row_of-AnyArray, end_of-AnyArray, more_of-AnyArray, items-the_row-AnyArray}
use Rattle.polars_arrays_nested.specs.declared.dict_keys.DictKeys.{DictKeys}
use Rattle.polars_arrays_nested.specs.declared.list_offsets.ListOffsets.{ListOffsets}
use Rattle.polars_compare_nested.specs.Tally.{entry_tally, pair_tally, tally, tally_across, total_pairs}
use Rattle.polars_compare_nested.specs.TallyLaws.{TallyIsWithinLeaves}

-- what is counted in part only is no more
cond-within : (c : Bool) (x y : ℕ) → x ≤ y → cond c x 0 ≤ y
cond-within true x y h = h
cond-within false x y h = omega arith

both-within : (p q : Bool) (x y : ℕ) → (p ≡ true → x ≤ y) → cond (p && q) x 0 ≤ cond p y 0
both-within true true x y h = h refl
both-within true false x y h = omega arith
both-within false q x y h = omega arith

-- the items of a list lie within all items
bounded : (items : ℕ) (from to : Option ℕ) → Bounds items from to → place_or_zero from + (place_or_zero to - place_or_zero from) ≤ items
bounded items (Some from) (Some to) bounds = omega (arith, bounds.0, bounds.1)
bounded items None (Some to) bounds = absurd bounds
bounded items (Some from) None bounds = absurd bounds
bounded items None None bounds = absurd bounds

-- a key that names one of n entries
named : (n : ℕ) (at : Option ℕ) → IsEntry n at → place_or_zero at + 1 ≤ n
named n (Some at) entry = omega (arith, entry)
named n None entry = absurd entry

-- the comparisons of lists, where those of items are no more than the items' leaf slots
lists-within : (child : ℕ → ℕ → ℕ → ℕ) (size all : ℕ → ℕ → ℕ) (items : ℕ) (offsets : ListOffsets) (v : Option (List Bool)) (offsets' : ListOffsets) (v' : Option (List Bool))
    → AreGood items (list_places offsets)
    → ((i j m : ℕ) → i + m ≤ items → child i j m ≤ size i m)
    → ((from n : ℕ) → from + n + 1 ≤ list_count offsets → all from (n + 1) ≡ all from n + size (offset_at offsets (from + n)) (span offsets (from + n)))
    → (a b n : ℕ) → a + n ≤ list_count offsets → total_pairs (pair_tally child offsets v offsets' v') a b n ≤ all a n
lists-within child size all items offsets v offsets' v' good small add a b zero within = omega arith
lists-within child size all items offsets v offsets' v' good small add a b (suc n) within =
    let before = lists-within child size all items offsets v offsets' v' good small add a b n (omega (arith, within)) in
    let adds = add a n (omega (arith, within)) in
    let lies = bounded items (place_at (list_places offsets) (a + n)) (place_at (list_places offsets) (a + n + 1)) (good.rows (a + n) (omega (arith, within))) in
    let row : child (offset_at offsets (a + n)) (offset_at offsets' (b + n)) (span offsets (a + n)) ≤ size (offset_at offsets (a + n)) (span offsets (a + n)) = small _ _ _ lies in
    let cost : pair_tally child offsets v offsets' v' (a + n) (b + n) ≤ size (offset_at offsets (a + n)) (span offsets (a + n)) =
    cond-within (is_present v (a + n) && is_present v' (b + n) && eqb (span offsets (a + n)) (span offsets' (b + n))) _ _ row in
    let next : n + 1 ≡ suc n = omega arith in
    rw (← next) (omega (arith, before, adds, cost))

-- the comparisons of dictionaries, where those of entries are no more than the entries' leaf slots
entries-within : (child : ℕ → ℕ → ℕ → ℕ) (size : ℕ → ℕ → ℕ) (entries : ℕ) (keys keys' : DictKeys)
    → NameEntries entries (key_validity keys) (key_places keys)
    → ((i j m : ℕ) → i + m ≤ entries → child i j m ≤ size i m)
    → (a b n : ℕ) → a + n ≤ key_count keys
    → total_pairs (entry_tally child keys keys') a b n ≤ total (λ k. cond (is_present (key_validity keys) k) (size (key_at keys k) 1) 0) a n
entries-within child size entries keys keys' good small a b zero within = omega arith
entries-within child size entries keys keys' good small a b (suc n) within =
    let before = entries-within child size entries keys keys' good small a b n (omega (arith, within)) in
    let cost = both-within (is_present (key_validity keys) (a + n)) (is_present (key_validity keys') (b + n)) (child (key_at keys (a + n)) (key_at keys' (b + n)) 1) (size (key_at keys (a + n)) 1)
    (λ here. small _ _ 1 (named entries (place_at (key_places keys) (a + n)) (good (a + n) (omega (arith, within)) here))) in
    omega (arith, before, cost)

module _ (add : LeavesAddUp) where
  mutual
    pub tally-within : TallyIsWithinLeaves
    tally-within (Null x) y good a b n within = omega arith
    tally-within (List' offsets p values validity) (List' offsets' p' values' validity') good a b n within =
        lists-within (λ i j m. tally values values' i j m) (λ i m. leaves values i m) (λ i m. leaves (List' offsets p values validity) i m) (len_of values) offsets validity offsets' validity' good.0.good (λ i j m low. tally-within values values' good.1 i j m low) (λ from m low. add (List' offsets p values validity) from m 1 good low) a b n within
    tally-within (List' offsets p values validity) _ good a b n within = omega arith
    tally-within (FixedSizeList' width len p values validity) (FixedSizeList' width' len' p' values' validity') good a b n within =
        let fits : width * (a + n) ≤ width * len = mul-le-mul_left width within in
        tally-within values values' good.1 (width * a) (width * b) (width * n) (omega (arith, fits, good.0.items))
    tally-within (FixedSizeList' width len p values validity) _ good a b n within = omega arith
    tally-within (Struct' fields len p values validity) (Struct' fields' len' p' values' validity') good a b n within =
        across-within fields.items len values (items-the_row-AnyArray _ values') good.1 a b n within
    tally-within (Struct' fields len p values validity) _ good a b n within = omega arith
    tally-within (Dictionary' keys p values) (Dictionary' keys' p' values') good a b n within =
        entries-within (λ i j m. tally values values' i j m) (λ i m. leaves values i m) (len_of values) keys keys' good.0.named (λ i j m low. tally-within values values' good.1 i j m low) a b n within
    tally-within (Dictionary' keys p values) _ good a b n within = omega arith
    tally-within _ y good a b n within = omega arith

    across-within : {c : _} (fields : List Field) (len : ℕ) (all : Row_of-AnyArray c) (others : List AnyArray) → AreFields fields len all → (a b n : ℕ) → a + n ≤ len → tally_across all others a b n ≤ leaves_across all a n
    across-within fields len end_of-AnyArray others good a b n within = omega arith
    across-within fields len (more_of-AnyArray first rest) [] good a b n within = omega arith
    across-within [] len (more_of-AnyArray first rest) (other ∷ others) good a b n within = absurd good
    across-within (field ∷ fields) len (more_of-AnyArray first rest) (other ∷ others) good a b n within =
        let one = tally-within first other good.2 a b n (omega (arith, within, good.0)) in
        let more = across-within fields len rest others good.3 a b n within in
        omega (arith, one, more)
