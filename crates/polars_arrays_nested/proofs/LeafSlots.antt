-- The leaf slots of adjacent windows add up.
use Rattle.std.proofs.Common.{◌≡◌, ◌≤◌, ◌+◌, ◌-◌, ◌*◌, ℕ, zero, suc, cond, List, refl, ap, sym, subst, ◌∙◌, arith, add-zero, [], ◌∷◌}
use Rattle.std.specs.Prelude.{Option, Some, None}
use Rattle.std.proofs.Math.Nat.{mul-le-mul_left}
use Rattle.polars_arrays_bytes.specs.OffsetStrings.{AreGood, Bounds, IsWithin, place_at, row_count}
use Rattle.polars_arrays_flat.specs.Validity.{is_present}
use Rattle.polars_arrays_flat.specs.declared.data_type.Field.{Field}
use Rattle.polars_arrays_nested.specs.DictKeys.{key_at, key_validity}
use Rattle.polars_arrays_nested.specs.GoodParts.{AreFields}
use Rattle.polars_arrays_nested.specs.Leaves.{leaves, leaves_across, total, LeavesAddUp}
use Rattle.polars_arrays_nested.specs.Lengths.{len_of}
use Rattle.polars_arrays_nested.specs.ListOffsets.{list_places, offset_at}
use Rattle.polars_arrays_nested.specs.Places.{place_or_zero}
use Rattle.polars_arrays_nested.specs.declared.any_array.AnyArray.{Null, List', FixedSizeList', Struct', Dictionary', Row_of-AnyArray, end_of-AnyArray, more_of-AnyArray}
use Rattle.polars_arrays_nested.specs.declared.list_offsets.ListOffsets.{ListOffsets}
use Rattle.polars_arrays_nested.proofs.Windows.{one_more, place_within}

-- a sum over two runs of numbers
total-add : (f : ℕ → ℕ) (from m n : ℕ) → total f from (m + n) ≡ total f from m + total f (from + m) n
total-add f from m zero = rw (add-zero, add-zero) refl
total-add f from m (suc n) =
    let rest = total-add f from m n in
    let place : from + (m + n) ≡ from + m + n = omega arith in
    let next : m + suc n ≡ suc (m + n) = omega arith in
    ap (λ (k : ℕ). total f from k) next ∙ ap (λ (k : ℕ). total f from (m + n) + f k) place ∙ omega (arith, rest)

-- good places do not fall
rises : (n : ℕ) (from to : Option ℕ) → Bounds n from to → place_or_zero from ≤ place_or_zero to
rises n (Some from) (Some to) bounds = bounds.0
rises n None (Some to) bounds = absurd bounds
rises n (Some from) None bounds = absurd bounds
rises n None None bounds = absurd bounds

reached : (n : ℕ) (at : Option ℕ) → IsWithin n at → place_or_zero at ≤ n
reached n (Some at) within = within
reached n None within = absurd within

rising : (n : ℕ) (offsets : ListOffsets) (from m : ℕ) → AreGood n (list_places offsets) → from + m ≤ row_count (list_places offsets) → offset_at offsets from ≤ offset_at offsets (from + m)
rising n offsets from zero good within = rw add-zero (omega arith)
rising n offsets from (suc m) good within =
    let before = rising n offsets from m good (omega (arith, within)) in
    let step = rises n (place_at (list_places offsets) (from + m)) (place_at (list_places offsets) (from + m + 1)) (good.rows (from + m) (omega (arith, within))) in
    let next : from + suc m ≡ from + m + 1 = omega arith in
    subst (λ k. offset_at offsets from ≤ offset_at offsets k) (sym next) (omega (arith, before, step))

-- two windows of items, one after the other
joined : (f : ℕ → ℕ → ℕ) (a b c n : ℕ) → a ≤ b → b ≤ c → c ≤ n → ((from m k : ℕ) → from + m + k ≤ n → f from (m + k) ≡ f from m + f (from + m) k) → f a (c - a) ≡ f a (b - a) + f b (c - b)
joined f a b c n low high within add =
    let whole : c - a ≡ (b - a) + (c - b) = omega (arith, low, high) in
    let there : a + (b - a) ≡ b = omega (arith, low) in
    ap (λ (k : ℕ). f a k) whole ∙ add a (b - a) (c - b) (omega (arith, low, high, within)) ∙ ap (λ (k : ℕ). f a (b - a) + f k (c - b)) there

-- a list's items lie in windows one after the other
in_lists : (f : ℕ → ℕ → ℕ) (items : ℕ) (offsets : ListOffsets) (from m n : ℕ) → AreGood items (list_places offsets) → from + m + n ≤ row_count (list_places offsets) → ((from' m' n' : ℕ) → from' + m' + n' ≤ items → f from' (m' + n') ≡ f from' m' + f (from' + m') n') → f (offset_at offsets from) (offset_at offsets (from + (m + n)) - offset_at offsets from) ≡ f (offset_at offsets from) (offset_at offsets (from + m) - offset_at offsets from) + f (offset_at offsets (from + m)) (offset_at offsets (from + m + n) - offset_at offsets (from + m))
in_lists f items offsets from m n good within add =
    let place : from + (m + n) ≡ from + m + n = omega arith in
    let last : offset_at offsets (from + m + n) ≤ items = reached items _ (place_within items (list_places offsets) (from + m + n) good (one_more items (list_places offsets) (from + m + n) good within)) in
    ap (λ (k : ℕ). f (offset_at offsets from) (offset_at offsets k - offset_at offsets from)) place
    ∙ joined f (offset_at offsets from) (offset_at offsets (from + m)) (offset_at offsets (from + m + n)) items
    (rising items offsets from m good (omega (arith, within)))
    (rising items offsets (from + m) n good within)
    last add

-- and so do those of lists of one width
in_fixed : (f : ℕ → ℕ → ℕ) (items width len from m n : ℕ) → items ≡ width * len → from + m + n ≤ len → ((from' m' n' : ℕ) → from' + m' + n' ≤ items → f from' (m' + n') ≡ f from' m' + f (from' + m') n') → f (width * from) (width * (m + n)) ≡ f (width * from) (width * m) + f (width * (from + m)) (width * n)
in_fixed f items width len from m n many within add =
    let both : width * (m + n) ≡ width * m + width * n = omega arith in
    let second : width * from + width * m ≡ width * (from + m) = omega arith in
    let fits : width * (from + m + n) ≤ width * len = mul-le-mul_left width within in
    let all : width * from + width * m + width * n ≡ width * (from + m + n) = omega arith in
    ap (λ (k : ℕ). f (width * from) k) both
    ∙ add (width * from) (width * m) (width * n) (omega (arith, many, fits, all))
    ∙ ap (λ (k : ℕ). f (width * from) (width * m) + f k (width * n)) second

mutual
  pub leaves-add : LeavesAddUp
  leaves-add (Null a) from m n good within = refl
  leaves-add (List' offsets p values validity) from m n good within =
      in_lists (λ x k. leaves values x k) (len_of values) offsets from m n good.0.good within (λ x j k low. leaves-add values x j k good.1 low)
  leaves-add (FixedSizeList' width len p values validity) from m n good within =
      in_fixed (λ x k. leaves values x k) (len_of values) width len from m n good.0.items within (λ x j k low. leaves-add values x j k good.1 low)
  leaves-add (Struct' fields len p values validity) from m n good within =
      across-add fields.items len values from m n good.1 within
  leaves-add (Dictionary' keys p values) from m n good within =
      total-add (λ k. cond (is_present (key_validity keys) k) (leaves values (key_at keys k) 1) 0) from m n
  leaves-add _ from m n good within = refl

  across-add : {c : _} (fields : List Field) (len : ℕ) (all : Row_of-AnyArray c) (from m n : ℕ) → AreFields fields len all → from + m + n ≤ len → leaves_across all from (m + n) ≡ leaves_across all from m + leaves_across all (from + m) n
  across-add fields len end_of-AnyArray from m n good within = refl
  across-add [] len (more_of-AnyArray first rest) from m n good within = absurd good
  across-add (field ∷ fields) len (more_of-AnyArray first rest) from m n good within =
      let one = leaves-add first from m n good.2 (omega (arith, within, good.0)) in
      let others = across-add fields len rest from m n good.3 within in
      omega (arith, one, others)

pub ruleset leaf_slots = (leaves-add)
