-- Runs of lists whose items are adjacent on both sides.
use Rattle.std.specs.Prelude.{◌≡◌, ◌≢◌, ◌+◌, ◌-◌, ◌≤◌, ◌<◌, ℕ, Bool, false, ◌&&◌, ◌||◌, eqb, IsTrue}
use Rattle.std.specs.Prelude.{List, Option, None, length, slice_index_or}
use Rattle.std.specs.List.{list_all}
use Rattle.polars_arrays_bits.specs.Bits.{first_of, is_bit}
use Rattle.polars_arrays_bytes.specs.OffsetStrings.{place_at}
use Rattle.polars_arrays_flat.specs.Validity.{is_present, window}
use Rattle.polars_arrays_nested.specs.Lengths.{len_of}
use Rattle.polars_arrays_nested.specs.ListOffsets.{offset_at, span}
use Rattle.polars_arrays_nested.specs.Parts.{list_offsets, list_validity, list_values}
use Rattle.polars_arrays_nested.specs.Places.{place_or_zero}
use Rattle.polars_arrays_nested.specs.declared.list.ListArray.{ListArray}
use Rattle.polars_compare_nested.specs.declared.runs.ItemRun.{ItemRun}
use Rattle.polars_compare_nested.specs.declared.runs.NextRows.{NextRows}
use Rattle.polars_compare_nested.specs.declared.runs.NextRows.TheVariants.{Apart, Run}

-- place i, or 0 if there is none
abbrev pub start_of : List (Option ℕ) → ℕ → ℕ
start_of all i = place_or_zero (place_at all i)

-- the number of items between places i and i + 1
abbrev pub span_between : List (Option ℕ) → ℕ → ℕ
span_between all i = start_of all (i + 1) - start_of all i

-- list i lies between two places that do not decrease
abbrev pub IsSpan : List (Option ℕ) → ℕ → Type 0
IsSpan all i = (place_at all i ≢ None) × (place_at all (i + 1) ≢ None)
    × (start_of all i ≤ start_of all (i + 1))

-- each of n lists from list a on lies between places that do not decrease
abbrev pub AreSpans : List (Option ℕ) → ℕ → ℕ → Type 0
AreSpans all a n = (i : ℕ) → i < n → IsSpan all (a + i)

-- lists i and j match: they have equally many items, and are both present or have none
abbrev pub is_match : ListArray → ℕ → ListArray → ℕ → Bool
is_match l i r j =
    eqb (span (list_offsets l) i) (span (list_offsets r) j)
    && (is_present (list_validity l) i && is_present (list_validity r) j
    || eqb (span (list_offsets l) i) 0)

-- for n pairs of lists from lists a and b on, whether they have equally many items
abbrev pub same_counts : List (Option ℕ) → ℕ → List (Option ℕ) → ℕ → ℕ → List Bool
same_counts all a others b n = first_of
    (λ i. eqb (span_between all (a + i)) (span_between others (b + i))) n

-- for each of n lists from list a on, whether it has `width` items
abbrev pub lists_of_width : List (Option ℕ) → ℕ → ℕ → ℕ → List Bool
lists_of_width all a n width = first_of (λ i. eqb (span_between all (a + i)) width) n

-- each of n lists from list a on has `width` items
abbrev pub HaveWidth : List (Option ℕ) → ℕ → ℕ → ℕ → Type 0
HaveWidth all a n width = (i : ℕ) → i < n → span_between all (a + i) ≡ width

-- n adjacent lists match
abbrev pub Match : ListArray → ℕ → ListArray → ℕ → ℕ → Type 0
Match l a r b n = (k : ℕ) → k < n → IsTrue (is_match l (a + k) r (b + k))

-- the first n bits of a word say which lists match
abbrev pub TellMatches : ListArray → ℕ → ListArray → ℕ → ℕ → ℕ → Type 0
TellMatches l a r b n word = (i : ℕ) → i < n → is_bit word i ≡ is_match l (a + i) r (b + i)

-- a run: the first of at most n lists, which match, with the windows of all their items
pub record IsRun (l : ListArray) (a : ℕ) (r : ListArray) (b n : ℕ) (run : ItemRun) : Type 0 where
  pub some : 1 ≤ run.len
  pub within : run.len ≤ n
  pub matching : Match l a r b run.len
  pub left_is : run.left_start ≡ offset_at (list_offsets l) a
  pub right_is : run.right_start ≡ offset_at (list_offsets r) b
  pub count_is : run.count ≡ offset_at (list_offsets l) (a + run.len) - offset_at (list_offsets l) a
  pub left_in : run.left_start + run.count ≤ len_of (list_values l)
  pub right_in : run.right_start + run.count ≤ len_of (list_values r)

-- the first lists do not match, or they begin a run
abbrev pub AreNext : ListArray → ℕ → ListArray → ℕ → ℕ → NextRows → Type 0
AreNext l a r b n Apart = is_match l a r b ≡ false
AreNext l a r b n (Run run) = IsRun l a r b n run

-- true if all items of list k have their bits set; the first bit is that of item `from`
abbrev pub all_items : List Bool → List (Option ℕ) → ℕ → ℕ → Bool
all_items items all from k = list_all
    (λ b. b) (window (start_of all k - from) (span_between all k) items)

-- for each of n lists from list a on, whether all items have their bits set
abbrev pub all_lists : List Bool → List (Option ℕ) → ℕ → ℕ → ℕ → List Bool
all_lists items all from a n = first_of (λ i. all_items items all from (a + i)) n

-- each of n lists from list a on lies within the `count` items from item `from` on
abbrev pub AreWithin : ℕ → List (Option ℕ) → ℕ → ℕ → ℕ → Type 0
AreWithin count all from a n = (i : ℕ) → i < n
    → start_of all (a + i) - from + span_between all (a + i) ≤ count

-- a bit is appended for each of n lists from list a on: whether the bits of its items are all set
pub record AddsRun (items : List Bool) (all : List (Option ℕ)) (a n : ℕ) (old new : List Bool) :
    Type 0 where
  pub size : length new ≡ length old + n
  pub kept : (i : ℕ) → i < length old → slice_index_or new i false ≡ slice_index_or old i false
  pub added : (i : ℕ) → i < n → slice_index_or new (length old + i) false
      ≡ all_items items all (start_of all a) (a + i)
