-- Laws of states of distinct values.
use Rattle.std.specs.Prelude.{◌≡◌, ◌++◌, ℕ, ℤ, Bool, true, List, IsTrue}
use Rattle.polars_arrays_flat.specs.Row.{Row}
use Rattle.polars_compute.specs.ReductionLaws.{ByRows}
use Rattle.polars_compute_slots.specs.State.{State, all_seen, appended, appended_all, are_within}
use Rattle.polars_compute_slots.specs.State.{finalised, merged, new_state, range_of, read_by}
use Rattle.polars_compute_slots.specs.State.{rows_read}

-- appending two columns with the same rows has the same effect
abbrev pub StatesByRows : Type 0
StatesByRows = (s : State)
    → ByRows (λ rows after. after ≡ appended rows s) (λ (after : State). after)

-- appending two columns with the same rows reads the same number of rows
abbrev pub ReadsByRows : Type 0
ReadsByRows = (s : State) → ByRows (λ rows read. read ≡ rows_read s rows) (λ (read : ℕ). read)

-- merging states of one range is commutative
abbrev pub MergesEitherWay : Type 0
MergesEitherWay = (s t : State) → range_of s ≡ range_of t → merged s t ≡ merged t s

-- merging states is associative
abbrev pub MergesInGroups : Type 0
MergesInGroups = (s t u : State) → merged (merged s t) u ≡ merged s (merged t u)

-- a state merged with itself is itself
abbrev pub MergesWithItself : Type 0
MergesWithItself = (s : State) → merged s s ≡ s

-- merging two new states with arrays appended to each gives a new state with all appended
abbrev pub MergesAsAppended : Type 0
MergesAsAppended = (range : List ℤ) (first more : List (List Row))
    → merged (appended_all first (new_state range)) (appended_all more (new_state range))
    ≡ appended_all (first ++ more) (new_state range)

-- once a state has seen all, appending an array that it accepts does not change the result
abbrev pub StaysWhenAppended : Type 0
StaysWhenAppended = (put : ℤ → Row) (s : State) (rows : List Row) → IsTrue (all_seen s)
    → IsTrue (are_within (range_of s) rows)
    → finalised put (appended rows s) ≡ finalised put s

-- once a state has seen all, merging a state of its range does not change the result
abbrev pub StaysWhenMerged : Type 0
StaysWhenMerged = (put : ℤ → Row) (s t : State) → IsTrue (all_seen s) → range_of s ≡ range_of t
    → finalised put (merged s t) ≡ finalised put s

-- once a state has seen all, with keys to null entries counted as null, appending an array that it
-- accepts does not change the result
abbrev pub ReadStaysWhenAppended : Type 0
ReadStaysWhenAppended = (null : ℤ → Bool) (put : ℤ → Row) (s : State) (rows : List Row)
    → IsTrue (all_seen (read_by null s)) → IsTrue (are_within (range_of s) rows)
    → finalised put (read_by null (appended rows s)) ≡ finalised put (read_by null s)

-- once a state has seen all, with keys to null entries counted as null, merging a state of its
-- range does not change the result
abbrev pub ReadStaysWhenMerged : Type 0
ReadStaysWhenMerged = (null : ℤ → Bool) (put : ℤ → Row) (s t : State)
    → IsTrue (all_seen (read_by null s)) → range_of s ≡ range_of t
    → finalised put (read_by null (merged s t)) ≡ finalised put (read_by null s)
