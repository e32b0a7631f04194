-- From bits of dictionaries to the rows that their keys name, and from bits to a list.
use Rattle.std.proofs.Common.{◌≡◌, ◌<◌, ◌↔◌, ℕ, zero, suc, Bool, true, false, List, [], ◌∷◌, length, arith, ap, sym, ◌∙◌, refl, inl, inr}
use Rattle.std.proofs.lemmas.Bool.{cases_Bool}
use Rattle.std.specs.Prelude.{slice_index, slice_index_or, slice_get, Some}
use Rattle.polars_arrays_flat.specs.Row.{Row, Null, Int, Truth, Bytes, Rows, Fields, Entry}
use Rattle.polars_arrays_nested.specs.AnyRows.{row, entry_row}
use Rattle.polars_arrays_nested.specs.declared.any_array.AnyArray.{AnyArray}
use Rattle.polars_compare_nested.specs.Headline.{SameTrees}
use Rattle.diff_keys.specs.Rising.{ListsRising}
use Rattle.diff_keys.specs.RisingLaws.{listed_as}
use Rattle.diff_pairs.specs.Pairs.{ArePicked, AreSame, IsChanged, IsUnset, TellsSame}

-- the entry of a row of a dictionary
abbrev pub entry_of : Row → Row
entry_of (Entry x) = x
entry_of _ = Null

pub entry_back : (x : Row) → entry_of (entry_row x) ≡ x
entry_back Null = refl
entry_back (Int z) = refl
entry_back (Truth b) = refl
entry_back (Bytes bs) = refl
entry_back (Rows rs) = refl
entry_back (Fields rs) = refl
entry_back (Entry x) = refl

pub entry_same : (x y : Row) → entry_row x ≡ entry_row y → x ≡ y
entry_same x y e = sym (entry_back x) ∙ (ap entry_of e ∙ entry_back y)

pub tells_same : (left right l r : AnyArray) (left_rows right_rows : List ℕ) (bits : List Bool) → length left_rows ≡ length right_rows
    → ArePicked left left_rows l → ArePicked right right_rows r → SameTrees true l r bits → TellsSame left right left_rows right_rows bits
tells_same left right l r left_rows right_rows bits pairs from_left from_right same = record {
  size = same.size ∙ from_left.len;
  at_each = λ p within.
      let l_at : row l p ≡ entry_row (row left (slice_index left_rows p)) = from_left.entries p within in
      let r_at : row r p ≡ entry_row (row right (slice_index right_rows p)) = from_right.entries p (omega arith) in
      let told = same.at_each p (omega (arith, from_left.len)) in
      (λ set. entry_same _ _ (sym l_at ∙ (told.0 set ∙ r_at)), λ e. told.1 (l_at ∙ (ap entry_row e ∙ sym r_at)));
}

-- a pair whose bit is not set is changed
pub unset_changed : (left right : AnyArray) (left_rows right_rows : List ℕ) (bits : List Bool) → TellsSame left right left_rows right_rows bits
    → (p : ℕ) → p < length bits → IsUnset bits p ↔ IsChanged left right left_rows right_rows p
unset_changed left right left_rows right_rows bits same p within =
    let bit : (slice_index_or bits p false ≡ true) ↔ AreSame left right left_rows right_rows p = same.at_each p (omega (arith, same.size, within)) in (
      λ unset equal. let clash : true ≡ false = sym (bit.1 equal) ∙ unset in absurd (cc),
      λ differ. elim (cases_Bool (slice_index_or bits p false)) [ inl set ↦ absurd (differ (bit.0 set)) | inr unset ↦ unset ],
    )

-- the places whose bit is not set are the changed pairs
pub lists_changed : (left right : AnyArray) (left_rows right_rows : List ℕ) (bits : List Bool) (places : List ℕ) → TellsSame left right left_rows right_rows bits
    → ListsRising (IsUnset bits) (length bits) places → ListsRising (IsChanged left right left_rows right_rows) (length left_rows) places
lists_changed left right left_rows right_rows bits places same h =
    rw same.size at (listed_as (IsUnset bits) (IsChanged left right left_rows right_rows) (length bits) places (unset_changed left right left_rows right_rows bits same) h)

-- the bit that a look-up gave
pub bit_at : (bits : List Bool) (p : ℕ) (b : Bool) → slice_get bits p ≡ Some b → slice_index_or bits p false ≡ b
bit_at [] p b e = absurd (cc)
bit_at (x ∷ xs) zero b e = cc
bit_at (x ∷ xs) (suc p) b e = bit_at xs p b e
