-- Bits of lists, of those of their items in a word.
use Rattle.std.proofs.Common.{◌≡◌, ◌+◌, ◌-◌, ◌≤◌, ℕ, Bool, List, sym, subst, ap, ◌∙◌, arith}
use Rattle.std.specs.List.{list_all}
use Rattle.std.specs.Prelude.{Option}
use Rattle.polars_arrays_flat.specs.Row.{Row}
use Rattle.polars_arrays_flat.specs.Validity.{window}
use Rattle.polars_arrays_nested.specs.GoodParts.{IsGood}
use Rattle.polars_arrays_nested.specs.Lengths.{len_of}
use Rattle.polars_arrays_nested.specs.ListOffsets.{list_places, offset_at}
use Rattle.polars_arrays_nested.specs.Parts.{list_offsets, list_values}
use Rattle.polars_arrays_nested.specs.declared.any_array.AnyArray.{List as Lists}
use Rattle.polars_arrays_nested.specs.declared.list.ListArray.{ListArray}
use Rattle.polars_arrays_words.proofs.Firsts.{first_is, get_or-first, length-first}
use Rattle.polars_arrays_words.specs.Bits.{first_of, is_bit}
use Rattle.polars_compare_nested.specs.Bits.{AddsRawBits, SameBits}
use Rattle.polars_compare_nested.specs.Runs.{AddsRun, AreWithin, IsRun, all_items, span_between, start_of}
use Rattle.polars_compare_nested.specs.declared.runs.ItemRun.{ItemRun}
use Rattle.polars_compare_nested.proofs.ListRuns.{run_bits}
use Rattle.polars_compare_nested.proofs.WindowBits.{get_or-window, length-window}

-- a window of the first values
pub first-window : (f : ℕ → Bool) (m at n : ℕ) → at + n ≤ m → first_of (λ i. f (at + i)) n ≡ window at n (first_of f m)
first-window f m at n within =
    first_is (λ i. f (at + i)) n (window at n (first_of f m)) (length-window at n (first_of f m) (omega (arith, within, length-first f m)))
    (λ i d low. sym (get_or-window at n (first_of f m) i d low ∙ get_or-first f m (at + i) d (omega (arith, low, within))))

-- whether all items of a list have their bits set, among the first values
pub items-first : (f : ℕ → Bool) (m : ℕ) (all : List (Option ℕ)) (from k : ℕ) → start_of all k - from + span_between all k ≤ m → list_all (λ b. b) (first_of (λ i. f (start_of all k - from + i)) (span_between all k)) ≡ all_items (first_of f m) all from k
items-first f m all from k within = ap (list_all (λ b. b)) (first-window f m (start_of all k - from) (span_between all k) within)

-- which more of the values do not change
pub adds_few : (f : ℕ → Bool) (count m : ℕ) (all : List (Option ℕ)) (a n : ℕ) (old new : List Bool) → count ≤ m → AreWithin count all (start_of all a) a n → AddsRun (first_of f m) all a n old new → AddsRun (first_of f count) all a n old new
adds_few f count m all a n old new few within adds = record {
  size = adds.size;
  kept = adds.kept;
  added = λ i low.
      let here = within i low in
      adds.added i low
      ∙ sym (items-first f m all (start_of all a) (a + i) (omega (arith, here, few)))
      ∙ items-first f count all (start_of all a) (a + i) here;
}

-- the bits that a run of few items adds are those of its lists
pub run_word : (agree : Row → Row → Bool) (l r : ListArray) (a b n : ℕ) (run : ItemRun) (word : ℕ) (old new : List Bool) → IsGood (Lists l) → IsGood (Lists r) → a + n ≤ len_of (Lists l) → b + n ≤ len_of (Lists r) → IsRun l a r b n run → SameBits agree (list_values l) run.left_start (list_values r) run.right_start run.count (first_of (is_bit word) run.count) → AddsRun (first_of (is_bit word) (offset_at (list_offsets l) (a + run.len) - offset_at (list_offsets l) a)) (list_places (list_offsets l)) a run.len old new → AddsRawBits agree (Lists l) a (Lists r) b run.len old new
run_word agree l r a b n run word old new h k low low' is bits adds =
    run_bits agree l r a b n run (first_of (is_bit word) run.count) old new h k low low' is bits
    (subst (λ m. AddsRun (first_of (is_bit word) m) (list_places (list_offsets l)) a run.len old new) (sym is.count_is) adds)
