-- Worked examples of the definitions: the check computes both sides of each.
use Rattle.std.specs.Prelude.{◌≡◌, pos, negsuc, true, false, [], ◌∷◌, length, refl}
use Rattle.std.specs.Ordering.{int_eq}
use Rattle.polars_arrays_flat.specs.Row.{Null, Int, Truth}
use Rattle.polars_compute_slots.specs.Slots.{place, slot_of, slot_state}
use Rattle.polars_compute_slots.specs.State.{State, all_seen, any_null, appended, appended_all, are_within, distinct, distinct_values, finalised, fullpoint, holds, is_full, is_value, is_within, merged, new_state, numbers_between, numbers_from, range_of, read_by, rows_read, set_of, truth_numbers, truth_row, whole_blocks}

numbers-from : numbers_from (negsuc 1) 3 ≡ negsuc 1 ∷ negsuc 0 ∷ pos 0 ∷ []
numbers-from = refl

numbers-between : numbers_between (pos 5) (pos 5) ≡ pos 5 ∷ []
numbers-between = refl

-- a range from 0 to 3, to which 3, 1, null and 1 are appended
four : State
four = appended (Int (pos 3) ∷ Int (pos 1) ∷ Null ∷ Int (pos 1) ∷ []) (new_state (numbers_between (pos 0) (pos 3)))

four-range : range_of four ≡ pos 0 ∷ pos 1 ∷ pos 2 ∷ pos 3 ∷ []
unfolding four
four-range = refl

four-set : set_of four ≡ pos 1 ∷ pos 3 ∷ []
unfolding four
four-set = refl

four-listed : finalised (λ v. Int v) four ≡ Int (pos 1) ∷ Int (pos 3) ∷ Null ∷ []
unfolding four
four-listed = refl

four-not-all : all_seen four ≡ false
unfolding four
four-not-all = refl

-- one value, seen without a null and with one
one-full : is_full (appended (Int (pos 5) ∷ []) (new_state (numbers_from (pos 5) 1))) ≡ true
one-full = refl

one-not-all : all_seen (appended (Int (pos 5) ∷ []) (new_state (numbers_from (pos 5) 1))) ≡ false
one-not-all = refl

one-all : all_seen (appended_all ((Int (pos 5) ∷ []) ∷ (Null ∷ []) ∷ []) (new_state (numbers_from (pos 5) 1))) ≡ true
one-all = refl

-- no values: a null is all there is to see
none-all : all_seen (appended (Null ∷ []) (new_state [])) ≡ true
none-all = refl

-- 0 and a null on one side, 3 on the other
sides-merged : finalised (λ v. Int v) (merged (appended (Int (pos 0) ∷ Null ∷ []) (new_state (numbers_from (pos 0) 4))) (appended (Int (pos 3) ∷ []) (new_state (numbers_from (pos 0) 4)))) ≡ Int (pos 0) ∷ Int (pos 3) ∷ Null ∷ []
sides-merged = refl

true-is-one : is_value (pos 1) (Truth true) ≡ true
true-is-one = refl

holds-none : holds (Null ∷ Int (pos 2) ∷ []) (pos 1) ≡ false
holds-none = refl

null-within : is_within [] Null ≡ true
null-within = refl

four-outside : are_within (numbers_from (pos 0) 4) (Int (pos 3) ∷ Int (pos 4) ∷ []) ≡ false
four-outside = refl

null-among : any_null (Int (pos 1) ∷ Null ∷ []) ≡ true
null-among = refl

truth-one : truth_row (pos 1) ≡ Truth true
truth-one = refl

-- the crate's own vector: t f t f t t under 1 1 0 1 0 0 has three distinct rows
vector : distinct truth_row truth_numbers (Truth true ∷ Truth false ∷ Null ∷ Truth false ∷ Null ∷ Null ∷ []) ≡ Truth false ∷ Truth true ∷ Null ∷ []
vector = refl

vector-values : length (distinct_values truth_numbers (Truth true ∷ Truth true ∷ Null ∷ [])) ≡ 1
vector-values = refl

-- of 0, 1, 0, 1 two rows are enough for 0 and 1, and a block of 512 is read
two-enough : fullpoint (new_state (numbers_from (pos 0) 2)) (Int (pos 0) ∷ Int (pos 1) ∷ Int (pos 0) ∷ Int (pos 1) ∷ []) ≡ 2
two-enough = refl

never-enough : fullpoint (new_state (numbers_from (pos 0) 2)) (Int (pos 0) ∷ Int (pos 0) ∷ Int (pos 0) ∷ []) ≡ 3
never-enough = refl

block-of-two : whole_blocks 2 ≡ 512
block-of-two = refl

two-blocks : whole_blocks 513 ≡ 1024
two-blocks = refl

no-block : whole_blocks 0 ≡ 0
no-block = refl

-- a state that has seen all values reads no rows, except for a null
full-reads : rows_read (appended (Int (pos 0) ∷ []) (new_state (numbers_from (pos 0) 1))) (Int (pos 0) ∷ Int (pos 0) ∷ []) ≡ 0
full-reads = refl

null-reads : rows_read (appended (Int (pos 0) ∷ []) (new_state (numbers_from (pos 0) 1))) (Int (pos 0) ∷ Null ∷ []) ≡ 2
null-reads = refl

-- slots: values from -1 on, and null after three of them
place-of-one : place (negsuc 0) (pos 1) ≡ 2
place-of-one = refl

slot-of-null : slot_of (negsuc 0) 3 Null ≡ 3
slot-of-null = refl

slots-seen : set_of (slot_state (negsuc 0) 3 (true ∷ false ∷ true ∷ true ∷ [])) ≡ negsuc 0 ∷ pos 1 ∷ []
slots-seen = refl

-- of the values 0 to 2, 0 means null; 0 and 2 were seen: 1 and 2 are left, and 2 and a null seen
read-as_null : read_by (int_eq (pos 0)) (slot_state (pos 0) 3 (true ∷ false ∷ true ∷ false ∷ [])) ≡ record { values = (pos 1, false) ∷ (pos 2, true) ∷ []; has_null = true }
read-as_null = refl

-- one that was not seen leaves the range alone
read-unseen : read_by (int_eq (pos 1)) (slot_state (pos 0) 3 (true ∷ false ∷ true ∷ false ∷ [])) ≡ record { values = (pos 0, true) ∷ (pos 2, true) ∷ []; has_null = false }
read-unseen = refl
