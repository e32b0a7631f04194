-- States of distinct values, and the effect of rows and of other states on them.
use Rattle.std.specs.Prelude.{◌+ℤ◌, ◌-ℤ◌, ◌≤ℤ◌, ◌<ℤ◌, ◌+◌, ◌-◌, ◌^◌, ◌*◌, ◌/◌, ◌||◌, ◌&&◌, ◌++◌, ℕ}
use Rattle.std.specs.Prelude.{suc, ℤ, pos, Bool, false, cond, not, List, [], ◌∷◌, length, map}
use Rattle.std.specs.Prelude.{filter, min, unsigned_abs, All, Contains}
use Rattle.std.specs.List.{list_all, list_any, range_with_len}
use Rattle.std.specs.Ordering.{int_eq}
use Rattle.std.specs.Simd.Lanes.{zip2}
use Rattle.polars_arrays_flat.specs.ArrayRows.{is_null}
use Rattle.polars_arrays_flat.specs.Row.{Row, Null, Int, Truth}

-- each value of a range, ascending (false as 0, true as 1), with a flag for seen; a flag for null
pub record State : Type 0 where
  pub values : List (ℤ × Bool)
  pub has_null : Bool

-- the range of a state
abbrev pub range_of : State → List ℤ
range_of s = map (λ v. v.0) s.values

-- the values seen, ascending
abbrev pub set_of : State → List ℤ
set_of s = map (λ v. v.0) (filter (λ v. v.1) s.values)

-- the n whole numbers from `least` on
abbrev pub numbers_from : ℤ → ℕ → List ℤ
numbers_from least n = map (λ i. least +ℤ pos i) (range_with_len 0 n)

-- the whole numbers from `least` to `greatest`, which is not less
abbrev pub numbers_between : ℤ → ℤ → List ℤ
numbers_between least greatest = numbers_from least (unsigned_abs (greatest -ℤ least +ℤ pos 1))

-- two numbers are in order, and their range has at most 2^64 - 2 numbers, so that slots fit
abbrev pub RangeFits : ℤ → ℤ → Type 0
RangeFits least greatest = (least ≤ℤ greatest) × ((greatest -ℤ least +ℤ pos 2) ≤ℤ pos (2 ^ 64 - 1))

-- the truth values as numbers
abbrev pub truth_numbers : List ℤ
truth_numbers = pos 0 ∷ pos 1 ∷ []

-- a state that has seen no row
abbrev pub new_state : List ℤ → State
new_state range = record { values = map (λ v. (v, false)) range; has_null = false }

-- ---- rows

-- true if a row is this value
abbrev pub is_value : ℤ → Row → Bool
is_value v (Int n) = int_eq v n
is_value v (Truth b) = int_eq v (cond b (pos 1) (pos 0))
is_value v row = false

-- true if one of the rows is this value
abbrev pub holds : List Row → ℤ → Bool
holds rows v = list_any (is_value v) rows

-- true if one of the rows is null
abbrev pub any_null : List Row → Bool
any_null rows = list_any is_null rows

-- true if a row is null or a value of the range
abbrev pub is_within : List ℤ → Row → Bool
is_within range row = is_null row || list_any (λ v. is_value v row) range

-- true if all rows are null or values of the range
abbrev pub are_within : List ℤ → List Row → Bool
are_within range rows = list_all (is_within range) rows

-- ---- changes of a state

-- the set joined with the values of the present rows; the flag is set if a row is null
abbrev pub appended : List Row → State → State
appended rows s =
    record {
      values = map (λ v. (v.0, v.1 || holds rows v.0)) s.values;
      has_null = s.has_null
          || any_null rows;
    }

-- the rows of several arrays appended in order
abbrev pub appended_all : List (List Row) → State → State
appended_all [] s = s
appended_all (rows ∷ more) s = appended_all more (appended rows s)

-- two states of one range merged: the union of the sets, and the OR of the flags
abbrev pub merged : State → State → State
merged s t = record {
  values = zip2 (λ v w. (v.0, v.1 || w.1)) s.values t.values;
  has_null = s.has_null
      || t.has_null;
}

-- ---- readings of a state

-- a state if some values mean null, as keys to null entries of a dictionary do: they are no values,
-- and the flag is also set if one of them was seen
abbrev pub read_by : (ℤ → Bool) → State → State
read_by null s = record {
  values = filter (λ v. not (null v.0)) s.values;
  has_null = s.has_null || list_any (λ v. v.1 && null v.0) s.values;
}

-- ---- results of a state

-- true if all values of the range were seen
abbrev pub is_full : State → Bool
is_full s = list_all (λ v. v.1) s.values

-- true if all values of the range were seen, and a null
abbrev pub all_seen : State → Bool
all_seen s = is_full s && s.has_null

-- the set ascending, then Null if a null was seen; `put` gives the row of a value
abbrev pub finalised : (ℤ → Row) → State → List Row
finalised put s = map put (set_of s) ++ cond s.has_null (Null ∷ []) []

-- the distinct rows of one array: those of a new state to which it is appended
abbrev pub distinct : (ℤ → Row) → List ℤ → List Row → List Row
distinct put range rows = finalised put (appended rows (new_state range))

-- the distinct rows that are not null, as values
abbrev pub distinct_values : List ℤ → List Row → List ℤ
distinct_values range rows = set_of (appended rows (new_state range))

-- the row of a truth value given as 0 or 1
abbrev pub truth_row : ℤ → Row
truth_row v = Truth (int_eq v (pos 1))

-- v is the least value of a set that is at least a bound
pub record IsLeastFrom (bound : ℤ) (set : List ℤ) (v : ℤ) : Type 0 where
  pub is_in : Contains set v
  pub from : bound ≤ℤ v
  pub least : All (λ other. other <ℤ v → other <ℤ bound) set

-- ---- numbers of rows read

-- the number of leading rows after which all values were seen, or of all rows
abbrev pub fullpoint : State → List Row → ℕ
fullpoint s [] = 0
fullpoint s (row ∷ rows) = cond (is_full s) 0 (suc (fullpoint (appended (row ∷ []) s) rows))

-- n rounded up to a multiple of 512
abbrev pub whole_blocks : ℕ → ℕ
whole_blocks n = 512 * ((n + 511) / 512)

-- the number of rows read: all if one is null, else blocks of 512 until all values were seen
abbrev pub rows_read : State → List Row → ℕ
rows_read s rows =
    cond (any_null rows) (length rows) (min (length rows) (whole_blocks (fullpoint s rows)))
