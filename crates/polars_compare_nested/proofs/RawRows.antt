-- Raw bits of windows, as they grow, and as they come from those of what the rows hold.
use Rattle.std.proofs.Common.{◌≡◌, ◌<◌, ◌≤◌, ◌+◌, ◌-◌, ◌*◌, ◌∙◌, ℕ, Bool, true, false, not, IsTrue, cond, List, [], ◌∷◌, ◌++◌, Some, length, length-append, get_or, refl, sym, ap, ap₂, subst, arith, add-zero, inl, inr, slice_get, replicate}
use Rattle.std.specs.Prelude.{Result, Ok, Err, IfOk}
use Rattle.std.proofs.lemmas.Bool.{cases_lt}
use Rattle.std.proofs.lemmas.List.{get_or-replicate, length-replicate}
use Rattle.std.proofs.lemmas.List.FromFn.{length-map-range_with_len, get_or-map-range_with_len}
use Rattle.std.specs.List.{list_all}
use Rattle.std.proofs.Math.ListN.{get_or-append}
use Rattle.std.proofs.Math.Nat.{mul-add, mul-one, mul-le-mul_left}
use Rattle.std.proofs.Math.Seq.{get_or-append_seam}
use Rattle.std.proofs.lemmas.Option.{get_or_from_slice_get}
use Rattle.polars_arrays_bits.specs.Blocks.{blocks_all}
use Rattle.polars_arrays_bits.specs.declared.error.ComputeError.{ComputeError}
use Rattle.polars_arrays_flat.specs.ArrayRows.{is_null}
use Rattle.polars_arrays_flat.specs.Kind.{NullKind}
use Rattle.polars_arrays_flat.specs.Row.{Row, Null, Int, Truth, Bytes, Rows, Fields, Entry}
use Rattle.polars_arrays_flat.specs.StoredRows.{kept}
use Rattle.polars_arrays_flat.specs.Validity.{is_present, window}
use Rattle.polars_arrays_nested.specs.AnyRows.{entry_row, row, rows_from}
use Rattle.polars_arrays_nested.specs.DictKeys.{key_at, key_count, key_validity}
use Rattle.polars_arrays_nested.specs.GoodParts.{IsGood}
use Rattle.polars_arrays_nested.specs.MaskLaws.{dictionary-row, presence-told}
use Rattle.polars_arrays_nested.specs.Lengths.{len_of}
use Rattle.polars_arrays_nested.specs.Masks.{mask_of, presence_of}
use Rattle.polars_arrays_nested.specs.Parts.{dictionary_keys, dictionary_values, fixed_validity, fixed_values, fixed_width}
use Rattle.polars_arrays_nested.specs.Types.{type_of}
use Rattle.polars_arrays_nested.specs.declared.any_array.AnyArray.{AnyArray, List', FixedSizeList, Dictionary}
use Rattle.polars_arrays_nested.specs.declared.any_array.AnyArray.{Null as Nulls}
use Rattle.polars_arrays_nested.specs.declared.dictionary.DictionaryArray.{DictionaryArray}
use Rattle.polars_arrays_nested.specs.declared.fixed_size_list.FixedSizeListArray.{FixedSizeListArray}
use Rattle.polars_arrays_nested.specs.declared.list_offsets.ListOffsets.TheVariants.{Small, Large}
use Rattle.polars_compare_leaves.specs.Sameness.{same, same_rows}
use Rattle.polars_compare_nested.specs.Bits.{AddsRawBits, RawBits, SameBits, SamePresent}
use Rattle.polars_compare_nested.specs.Entries.{AreEntries, both_present}
use Rattle.polars_compare_nested.specs.Tally.{tally, entry_tally}
use Rattle.polars_compare_nested.specs.declared.entries.EntryPair.{EntryPair}
use Rattle.polars_compare_nested.proofs.WindowBits.{part_same}

-- no bits say nothing
pub raw_none : (agree : Row → Row → Bool) (l : AnyArray) (a : ℕ) (r : AnyArray) (b : ℕ) → RawBits agree l a r b 0 []
raw_none agree l a r b = record { size = refl; at_present = λ i low both. absurd (omega arith) }

-- bits that are added to those of a window make those of a longer one
pub raw_adds : (agree : Row → Row → Bool) (l : AnyArray) (a : ℕ) (r : AnyArray) (b m k : ℕ) (old new : List Bool) → RawBits agree l a r b m old → AddsRawBits agree l (a + m) r (b + m) k old new → RawBits agree l a r b (m + k) new
raw_adds agree l a r b m k old new h adds = record {
  size = omega (arith, h.size, adds.size);
  at_present = λ i low both. elim (cases_lt i m) [
    | inl before ↦ adds.kept i (omega (arith, before, h.size)) ∙ h.at_present i before both
    | inr after ↦ (
        let at : m + (i - m) ≡ i = omega arith in
        let left : a + m + (i - m) ≡ a + i = omega arith in
        let right : b + m + (i - m) ≡ b + i = omega arith in
        let bit = adds.at_present (i - m) (omega arith) (rw (left, right) both) in
        rw (h.size, at, left, right) at bit)
  ];
}

-- no bits are added
pub adds_none : (agree : Row → Row → Bool) (l : AnyArray) (a : ℕ) (r : AnyArray) (b : ℕ) (old : List Bool) → AddsRawBits agree l a r b 0 old old
adds_none agree l a r b old = record { size = omega arith; kept = λ i low. refl; at_present = λ i low both. absurd (omega arith) }

-- bits are added behind others that were
pub adds_more : (agree : Row → Row → Bool) (l : AnyArray) (a : ℕ) (r : AnyArray) (b m k : ℕ) (old mid new : List Bool) → AddsRawBits agree l a r b m old mid → AddsRawBits agree l (a + m) r (b + m) k mid new → AddsRawBits agree l a r b (m + k) old new
adds_more agree l a r b m k old mid new first next = record {
  size = omega (arith, first.size, next.size);
  kept = λ i low. next.kept i (omega (arith, low, first.size)) ∙ first.kept i low;
  at_present = λ i low both. elim (cases_lt i m) [
    | inl before ↦ next.kept (length old + i) (omega (arith, before, first.size)) ∙ first.at_present i before both
    | inr after ↦ (
        let place : length mid + (i - m) ≡ length old + i = omega (arith, after, first.size) in
        let left : a + m + (i - m) ≡ a + i = omega arith in
        let right : b + m + (i - m) ≡ b + i = omega arith in
        let bit = next.at_present (i - m) (omega arith) (rw (left, right) both) in
        rw (place, left, right) at bit)
  ];
}

-- a bit that is right where its two rows are present is added
pub adds_one : (agree : Row → Row → Bool) (l : AnyArray) (i : ℕ) (r : AnyArray) (j : ℕ) (old : List Bool) (bit : Bool) → SamePresent agree l i r j bit → AddsRawBits agree l i r j 1 old (old ++ bit ∷ [])
adds_one agree l i r j old bit h = record {
  size = omega (arith, length-append {A = Bool});
  kept = λ k low. rw get_or-append refl;
  at_present = λ k low both.
      let none : k ≡ 0 = omega arith in
      rw (none, add-zero (length old), add-zero i, add-zero j)
      (get_or-append_seam old bit [] false ∙ h (rw none at both));
}

-- raw bits, once joined with the validities
pub joined : (agree : Row → Row → Bool) (l : AnyArray) (a : ℕ) (r : AnyArray) (b n : ℕ) (raw bits : List Bool) → RawBits agree l a r b n raw → ((by : Row → Row → Bool) → RawBits by l a r b (length raw) raw → SameBits by l a r b (length raw) bits) → SameBits agree l a r b n bits
joined agree l a r b n raw bits h join =
    subst (λ (m : ℕ). SameBits agree l a r b m bits) h.size
    (join agree (subst (λ (m : ℕ). RawBits agree l a r b m raw) (sym h.size) h))

both_kept : (agree : Row → Row → Bool) (p q : Bool) (x y : Row) → IsTrue p → IsTrue q → same agree (kept p x) (kept q y) ≡ same agree x y
both_kept agree true true x y h k = refl
both_kept agree false q x y h k = cc
both_kept agree true false x y h k = cc

fixed_widths : (l r : FixedSizeListArray) → type_of (FixedSizeList l) ≡ type_of (FixedSizeList r) → fixed_width l ≡ fixed_width r
fixed_widths l r e = cc

block_within : (w k n : ℕ) → k < n → w * k + w ≤ w * n
block_within w k n low =
    let here : w * (k + 1) ≤ w * n = mul-le-mul_left w (omega arith) in
    rw (mul-add, mul-one) at here

-- there is a bit for each block
blocks_count : (width n : ℕ) (items bits : List Bool) → bits ≡ blocks_all width n items → length bits ≡ n
blocks_count width n items bits e =
    rw e (length-map-range_with_len (λ i. list_all (λ b. b) (window (width * i) width items)) 0 n)

-- and it says whether all bits of the block are set
blocks_at : (width n : ℕ) (items bits : List Bool) (i : ℕ) → bits ≡ blocks_all width n items → i < n → get_or bits i false ≡ list_all (λ b. b) (window (width * i) width items)
blocks_at width n items bits i e low =
    rw e (get_or-map-range_with_len (λ i. list_all (λ b. b) (window (width * i) width items)) 0 n i i false low (omega arith))

-- the block of list k has all bits set where lists a + k and b + k have the same items
block_same : (agree : Row → Row → Bool) (x y : AnyArray) (w v a b n k : ℕ) (items : List Bool) → w ≡ v → SameBits agree x (w * a) y (v * b) (w * n) items → k < n → list_all (λ b. b) (window (w * k) w items) ≡ same_rows agree (rows_from (row x) (w * (a + k)) w) (rows_from (row y) (v * (b + k)) v)
block_same agree x y w v a b n k items wide =
    subst (λ (v : ℕ). SameBits agree x (w * a) y (v * b) (w * n) items → k < n → list_all (λ b. b) (window (w * k) w items) ≡ same_rows agree (rows_from (row x) (w * (a + k)) w) (rows_from (row y) (v * (b + k)) v)) wide
    (λ h low. rw (mul-add w a k, mul-add w b k) (part_same agree x y (w * a) (w * b) (w * n) items (w * k) w h (block_within w k n low)))

-- bits of lists of one width, of those of their items
pub fixed_bits : (agree : Row → Row → Bool) (l r : FixedSizeListArray) (a b n : ℕ) (x y : AnyArray) (from at count width : ℕ) (items bits : List Bool) → x ≡ fixed_values l → y ≡ fixed_values r → from ≡ fixed_width l * a → at ≡ fixed_width r * b → count ≡ fixed_width l * n → width ≡ fixed_width l → type_of (FixedSizeList l) ≡ type_of (FixedSizeList r) → SameBits agree x from y at count items → bits ≡ blocks_all width n items → RawBits agree (FixedSizeList l) a (FixedSizeList r) b n bits
fixed_bits agree l r a b n x y from at count width items bits ex ey ef ea ec ew one_type same blocks =
    let same' : SameBits agree (fixed_values l) (fixed_width l * a) (fixed_values r) (fixed_width r * b) (fixed_width l * n) items =
    rw (ex, ey, ef, ea, ec) at same in
    record {
      size = blocks_count width n items bits blocks;
      at_present = λ i low both.
          let block : get_or bits i false ≡ list_all (λ b. b) (window (fixed_width l * i) (fixed_width l) items) = rw ew at (blocks_at width n items bits i blocks low) in
          block
          ∙ block_same agree (fixed_values l) (fixed_values r) (fixed_width l) (fixed_width r) a b n i items (fixed_widths l r one_type) same' low
          ∙ sym (both_kept agree (is_present (fixed_validity l) (a + i)) (is_present (fixed_validity r) (b + i)) (Rows (rows_from (row (fixed_values l)) (fixed_width l * (a + i)) (fixed_width l))) (Rows (rows_from (row (fixed_values r)) (fixed_width r * (b + i)) (fixed_width r))) both.0 both.1);
    }

-- the bit of a window of one row
pub same_first : (agree : Row → Row → Bool) (l : AnyArray) (a : ℕ) (r : AnyArray) (b : ℕ) (bits : List Bool) (bit : Bool) → SameBits agree l a r b 1 bits → slice_get bits 0 ≡ Some bit → SamePresent agree l a r b bit
same_first agree l a r b bits bit h read both =
    let at : get_or bits 0 false ≡ same agree (row l (a + 0)) (row r (b + 0)) = h.at_each 0 (omega arith) in
    sym (get_or_from_slice_get bits 0 bit false read) ∙ rw (add-zero a, add-zero b) at at

entry_not_null : (here there : Bool) (x : Row) → there ≡ not (is_null (kept here (entry_row x))) → there ≡ true → true ≡ not (is_null x)
entry_not_null true there Null told h = cc
entry_not_null false there Null told h = cc
entry_not_null here there (Int n) told h = refl
entry_not_null here there (Truth b) told h = refl
entry_not_null here there (Bytes xs) told h = refl
entry_not_null here there (Rows xs) told h = refl
entry_not_null here there (Fields xs) told h = refl
entry_not_null here there (Entry x) told h = refl

-- a row that is not Null is not masked
unmasked : (x : AnyArray) (i : ℕ) → is_present (presence_of x) i ≡ true → is_present (mask_of x) i ≡ true
unmasked (Nulls a) i h = refl
unmasked _ i h = h

-- a row of a dictionary that is present names an entry that is
entry_there : (a : DictionaryArray) (i : ℕ) → IsGood (Dictionary a) → i < key_count (dictionary_keys a) → key_at (dictionary_keys a) i < len_of (dictionary_values a) → IsTrue (is_present (mask_of (Dictionary a)) i) → IsTrue (is_present (mask_of (dictionary_values a)) (key_at (dictionary_keys a) i))
entry_there a i good low entry h =
    let k = key_at (dictionary_keys a) i in
    unmasked (dictionary_values a) k
    (presence-told (dictionary_values a) k good.1 entry
    ∙ sym (entry_not_null (is_present (key_validity (dictionary_keys a)) i) (is_present (mask_of (Dictionary a)) i) (row (dictionary_values a) k) (presence-told (Dictionary a) i good low) h))

-- the bit of two dictionary rows is that of their entries, where these are present
pub entry_bit : (agree : Row → Row → Bool) (l r : DictionaryArray) (i j : ℕ) (x y : AnyArray) (pair : EntryPair) (bit : Bool) → IsGood (Dictionary l) → IsGood (Dictionary r) → i < key_count (dictionary_keys l) → j < key_count (dictionary_keys r) → x ≡ dictionary_values l → y ≡ dictionary_values r → AreEntries l i r j pair → SamePresent agree x pair.left y pair.right bit → SamePresent agree (Dictionary l) i (Dictionary r) j bit
entry_bit agree l r i j x y pair bit good good' low low' ex ey entries h both =
    let here : IsTrue (is_present (mask_of (Dictionary l)) i) = rw (add-zero i) at both.0 in
    let there : IsTrue (is_present (mask_of (Dictionary r)) j) = rw (add-zero j) at both.1 in
    let k = key_at (dictionary_keys l) i in
    let m = key_at (dictionary_keys r) j in
    let in_left : k < len_of (dictionary_values l) = rw entries.left_is at entries.left_in in
    let in_right : m < len_of (dictionary_values r) = rw entries.right_is at entries.right_in in
    let told : SamePresent agree (dictionary_values l) k (dictionary_values r) m bit = rw (ex, ey, entries.left_is, entries.right_is) at h in
    told (rw (add-zero k) (entry_there l i good low in_left here), rw (add-zero m) (entry_there r j good' low' in_right there))
    ∙ sym (both_kept agree (is_present (mask_of (Dictionary l)) i) (is_present (mask_of (Dictionary r)) j) (Entry (row (dictionary_values l) k)) (Entry (row (dictionary_values r) m)) here there)
    ∙ sym (ap₂ (same agree) (dictionary-row l i good low) (dictionary-row r j good' low'))

key_there : (here there : Bool) (x : Row) → there ≡ not (is_null (kept here (entry_row x))) → there ≡ true → here ≡ true
key_there true there x told h = refl
key_there false there x told h = cc

-- a row of a dictionary that is present has a present key
present_key : (a : DictionaryArray) (i : ℕ) → IsGood (Dictionary a) → i < key_count (dictionary_keys a) → IsTrue (is_present (mask_of (Dictionary a)) i) → is_present (key_validity (dictionary_keys a)) i ≡ true
present_key a i good low h =
    key_there (is_present (key_validity (dictionary_keys a)) i) (is_present (mask_of (Dictionary a)) i) (row (dictionary_values a) (key_at (dictionary_keys a) i)) (presence-told (Dictionary a) i good low) h

-- where a key is masked any bit may stand
pub entry_none : (agree : Row → Row → Bool) (l r : DictionaryArray) (i j : ℕ) (bit : Bool) → IsGood (Dictionary l) → IsGood (Dictionary r) → i < key_count (dictionary_keys l) → j < key_count (dictionary_keys r) → both_present l i r j ≡ false → SamePresent agree (Dictionary l) i (Dictionary r) j bit
entry_none agree l r i j bit good good' low low' none both =
    let here : is_present (key_validity (dictionary_keys l)) i ≡ true = present_key l i good low (rw (add-zero i) at both.0) in
    let there : is_present (key_validity (dictionary_keys r)) j ≡ true = present_key r j good' low' (rw (add-zero j) at both.1) in
    absurd (let e : ⊥ = cc in e)

-- two dictionary rows cost what their entries cost
pub entry_count : (l r : DictionaryArray) (i j : ℕ) (x y : AnyArray) (pair : EntryPair) → x ≡ dictionary_values l → y ≡ dictionary_values r → AreEntries l i r j pair → tally x y pair.left pair.right 1 ≡ tally (Dictionary l) (Dictionary r) i j 1
entry_count l r i j x y pair ex ey entries =
    let child : ℕ → ℕ → ℕ → ℕ = λ i j m. tally (dictionary_values l) (dictionary_values r) i j m in
    let cost : entry_tally child (dictionary_keys l) (dictionary_keys r) i j ≡ child (key_at (dictionary_keys l) i) (key_at (dictionary_keys r) j) 1 =
    ap (λ (p : Bool). cond p (child (key_at (dictionary_keys l) i) (key_at (dictionary_keys r) j) 1) 0) entries.present in
    rw (ex, ey, entries.left_is, entries.right_is, add-zero i, add-zero j) (omega (arith, cost))

-- each row of an array of nulls is null
null_row : (y : AnyArray) (i : ℕ) → type_of y ≡ NullKind → row y i ≡ Null
null_row (Nulls k) i t = refl
null_row (List' (Small o) p values mask) i t = cc
null_row (List' (Large o) p values mask) i t = cc
null_row _ i t = cc

-- so all rows of two such arrays are the same
pub raw_nulls : (agree : Row → Row → Bool) (k : ℕ) (y : AnyArray) (a b n : ℕ) (bits : List Bool) → type_of y ≡ NullKind → bits ≡ replicate n true → RawBits agree (Nulls k) a y b n bits
raw_nulls agree k y a b n bits t e = record {
  size = rw e (length-replicate n true);
  at_present = λ i low present. rw (e, null_row y (b + i) t) (get_or-replicate n i true false low);
}

tally_nulls : (k : ℕ) (y : AnyArray) (a b n : ℕ) → tally (Nulls k) y a b n ≡ 0
tally_nulls k y a b n = refl

-- and nothing is compared
pub null_free : (k : ℕ) (y : AnyArray) (a b n count : ℕ) → count ≡ count + tally (Nulls k) y a b n
null_free k y a b n count = omega (arith, tally_nulls k y a b n)

-- what holds anyway holds if there is a result
pub on_ok : (result : Result (List Bool) ComputeError) (X : Type 0) → X → IfOk result (λ _. X)
on_ok (Ok bits) X h = h
on_ok (Err e) X h = tt
