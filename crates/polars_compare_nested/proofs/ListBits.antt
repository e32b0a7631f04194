-- Bits of lists, of those of their items.
use Rattle.std.proofs.Common.{◌≡◌, ◌+◌, ◌-◌, ◌<◌, ◌≤◌, ℕ, ℤ, Bool, false, List, ◌++◌, length, length-append, get_or, refl, ap, ◌∙◌, arith}
use Rattle.std.specs.Prelude.{Option}
use Rattle.std.proofs.Math.ListN.{get_or-append}
use Rattle.std.proofs.lemmas.List.{get_or-append-add}
use Rattle.std.proofs.lemmas.List.FromFn.{length-map-range_with_len, get_or-map-range_with_len}
use Rattle.polars_arrays_bytes.specs.OffsetStrings.{AreGood, places}
use Rattle.polars_arrays_nested.specs.ListOffsets.{list_count, list_places, offset_at}
use Rattle.polars_arrays_nested.specs.declared.list_offsets.ListOffsets.{ListOffsets}
use Rattle.polars_compare_nested.specs.Runs.{AddsRun, AreSpans, AreWithin, all_items, all_lists, start_of}
use Rattle.polars_compare_nested.proofs.OffsetPlaces.{length-places}
use Rattle.polars_compare_nested.proofs.Offsets.{good_span, has_offset, list_part}

-- there is a bit for each list
pub length-lists : (items : List Bool) (all : List (Option ℕ)) (from a n : ℕ) → length (all_lists items all from a n) ≡ n
length-lists items all from a n = length-map-range_with_len (λ i. all_items items all from (a + i)) 0 n

-- and it says whether the bits of its items are all set
pub get_or-lists : (items : List Bool) (all : List (Option ℕ)) (from a n i : ℕ) → i < n → get_or (all_lists items all from a n) i false ≡ all_items items all from (a + i)
get_or-lists items all from a n i low =
    get_or-map-range_with_len (λ i. all_items items all from (a + i)) 0 n i i false low (omega arith)

-- so that these bits are those of a run
pub adds_lists : (items : List Bool) (all : List (Option ℕ)) (a n : ℕ) (old : List Bool) → AddsRun items all a n old (old ++ all_lists items all (start_of all a) a n)
adds_lists items all a n old =
    let lists : List Bool = all_lists items all (start_of all a) a n in
    record {
      size = omega (arith, length-append old lists, length-lists items all (start_of all a) a n);
      kept = λ i low. rw get_or-append refl;
      added = λ i low. get_or-append-add old lists i false ∙ get_or-lists items all (start_of all a) a n i low;
    }

-- the lists of a run lie within its items
pub lists_within : (count items : ℕ) (all : List (Option ℕ)) (offsets : ListOffsets) (a n first : ℕ) → AreGood items (list_places offsets) → all ≡ list_places offsets → a + n ≤ list_count offsets → first ≡ start_of all a → count ≡ offset_at offsets (a + n) - offset_at offsets a → AreWithin count all first a n
lists_within count items all offsets a n first good e low first_is count_is i within =
    rw (first_is, e, count_is) (list_part items offsets a n i good low within)

-- there is an offset for each list, and one more
pub lent_offset : {A : Type 0} (value : A → ℤ) (numbers : List A) (items : ℕ) (offsets : ListOffsets) (i : ℕ) → AreGood items (list_places offsets) → places value numbers ≡ list_places offsets → i ≤ list_count offsets → i < length numbers
lent_offset value numbers items offsets i good e low =
    omega (arith, has_offset items offsets i good low, length-places value numbers, ap length e)

-- each list lies between two places
pub lists_lie : (items : ℕ) (all : List (Option ℕ)) (offsets : ListOffsets) (a n : ℕ) → AreGood items (list_places offsets) → all ≡ list_places offsets → a + n ≤ list_count offsets → AreSpans all a n
lists_lie items all offsets a n good e low i within =
    rw e (good_span items (list_places offsets) (a + i) good (omega (arith, low, within)))
