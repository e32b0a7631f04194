-- The rows of an array one by one are its rows.
use Rattle.std.proofs.Common.{◌≡◌, ◌<◌, ◌∙◌, ℕ, Bool, List, length, sym, subst, arith}
use Rattle.std.specs.Prelude.{ℤ, Option, MatchOption}
use Rattle.std.proofs.lemmas.List.{get_or_default, length-map, same_lists}
use Rattle.std.proofs.lemmas.List.FromFn.{get_or-map-range_with_len, length-map-range_with_len}
use Rattle.polars_arrays_bytes.specs.OffsetStrings.{OffsetStrings, offset_rows, offset_strings, places, row_count, string_between}
use Rattle.polars_arrays_flat.specs.ArrayRows.{number_rows, truth_rows}
use Rattle.polars_arrays_flat.specs.Flat.{Flat}
use Rattle.polars_arrays_flat.specs.Numbers.{Numbers}
use Rattle.polars_arrays_flat.specs.Row.{Row, Null, Bytes, Int, Truth}
use Rattle.polars_arrays_flat.specs.StoredRows.{row, rows_under, number_slots, truth_slots, byte_slots}
use Rattle.polars_arrays_flat.specs.Validity.{HasBits}
use Rattle.polars_arrays_nested.specs.StoredRows.{listed}
use Rattle.polars_arrays_numbers.specs.Naturals.{natural_of}
use Rattle.polars_arrays_views.specs.Parts.{ViewParts, view_rows, view_strings}
use Rattle.polars_arrays_views.specs.Views.{row_bytes}
use Rattle.polars_compare_extremes.specs.Extremes.{FindsBest, NonePresent}
use Rattle.polars_compare_extremes.proofs.SlotRows.{length-under}

listed-is : (rows : List Row) (n : ℕ) → length rows ≡ n → listed (row rows) n ≡ rows
listed-is rows n e =
    same_lists (listed (row rows) n) rows (length-map-range_with_len (row rows) 0 n ∙ sym e)
    (λ k d h.
    let below : k < n = omega (arith, h, length-map-range_with_len (row rows) 0 n) in
    get_or-map-range_with_len (row rows) 0 n k k d below (omega arith) ∙ get_or_default rows k Null d (omega (arith, below, e)))

module _ (better : Row → Row → Bool) where
  abbrev Found : {A : Type 0} → List Row → Option A → (A → Row) → Type 0
  Found rows found put = MatchOption found (NonePresent rows) (λ x. FindsBest better rows (put x))

  found-listed : {A : Type 0} (mask : Option (List Bool)) (slots : List Row) (n : ℕ) → HasBits (length slots) mask → length slots ≡ n → (found : Option A) (put : A → Row) → Found (rows_under mask slots) found put → Found (listed (row (rows_under mask slots)) n) found put
  found-listed mask slots n bits e found put f =
      subst (λ (rows : List Row). Found rows found put) (sym (listed-is (rows_under mask slots) n (length-under mask slots bits ∙ e))) f

  pub truth-listed : {B : Type 0} (a : Flat Bool) → HasBits (length (truth_slots a.values)) a.validity → (found : Option B) (put : B → Row) → Found (truth_rows a) found put → Found (listed (row (truth_rows a)) (length a.values)) found put
  truth-listed a bits found put f = found-listed a.validity (truth_slots a.values) (length a.values) bits (length-map a.values Truth) found put f

  pub number-listed : {A B : Type 0} (value : A → ℤ) (a : Numbers A) → HasBits (length (number_slots value a.values)) a.validity → (found : Option B) (put : B → Row) → Found (number_rows value a) found put → Found (listed (row (number_rows value a)) (length a.values)) found put
  number-listed value a bits found put f =
      found-listed a.validity (number_slots value a.values) (length a.values) bits (length-map a.values (λ (x : _). Int (value x))) found put f

  offset-many : {A : Type 0} (value : A → ℤ) (a : OffsetStrings A) → length (byte_slots (offset_strings value a)) ≡ row_count a.offsets
  offset-many value a =
      omega (arith, length-map (offset_strings value a) Bytes, length-map-range_with_len (string_between (places value a.offsets) a.values) 0 (row_count (places value a.offsets)), length-map a.offsets (λ (o : _). natural_of (value o)))

  pub offset-listed : {A B : Type 0} (value : A → ℤ) (a : OffsetStrings A) → HasBits (length (byte_slots (offset_strings value a))) a.validity → (found : Option B) (put : B → Row) → Found (offset_rows value a) found put → Found (listed (row (offset_rows value a)) (row_count a.offsets)) found put
  offset-listed value a bits found put f =
      found-listed a.validity (byte_slots (offset_strings value a)) (row_count a.offsets) bits (offset-many value a) found put f

  pub view-listed : {B : Type 0} (a : ViewParts) → HasBits (length (byte_slots (view_strings a))) a.validity → (found : Option B) (put : B → Row) → Found (view_rows a) found put → Found (listed (row (view_rows a)) (length a.views)) found put
  view-listed a bits found put f =
      found-listed a.validity (byte_slots (view_strings a)) (length a.views) bits (length-map (view_strings a) Bytes ∙ length-map a.views (row_bytes a.buffers)) found put f
