-- Worked examples of the definitions: the check computes both sides of each.
use Rattle.std.specs.Prelude.{◌≡◌, pos, negsuc, true, false, [], ◌∷◌, refl}
use Rattle.polars_arrays_flat.specs.Row.{Null, Int, Truth, Bytes, Rows, Fields, Entry, row_list}
use Rattle.polars_compare_leaves.specs.Joining.{told, joined_bit}
use Rattle.polars_compare_leaves.specs.Order.{row_less, row_at_most, row_greater, row_at_least}
use Rattle.polars_compare_leaves.specs.Sameness.{same_leaf, same_row, other_row}
use Rattle.polars_compare_leaves.specs.declared.joining.Relation.TheVariants.{Equal, Unequal}

-- null is the same as null alone
null-null : same_row Null Null ≡ true
null-null = refl

null-number : same_row Null (Int (pos 0)) ≡ false
null-number = refl

number-null : other_row (Int (pos 0)) Null ≡ true
number-null = refl

-- a number is no truth value, and -1 is not 1
number-truth : same_leaf (Int (pos 1)) (Truth true) ≡ false
number-truth = refl

minus-one : same_row (Int (negsuc 0)) (Int (pos 1)) ≡ false
minus-one = refl

bytes-same : same_row (Bytes (97 ∷ [])) (Bytes (97 ∷ 0 ∷ [])) ≡ false
bytes-same = refl

-- lists are the same item by item, null items too, and as long as each other
list-same : same_row (Rows (row_list (Int (pos 1) ∷ Null ∷ []))) (Rows (row_list (Int (pos 1) ∷ Null ∷ []))) ≡ true
list-same = refl

list-shorter : same_row (Rows (row_list (Int (pos 1) ∷ []))) (Rows (row_list (Int (pos 1) ∷ Null ∷ []))) ≡ false
list-shorter = refl

-- a list is no struct, and a dictionary's null entry no null
list-struct : same_row (Rows (row_list [])) (Fields (row_list [])) ≡ false
list-struct = refl

entry-null : same_row (Entry Null) Null ≡ false
entry-null = refl

-- -1 is less than 0, false than true, `a` than `ab`, and `ab` than `b`
less-number : row_less (Int (negsuc 0)) (Int (pos 0)) ≡ true
less-number = refl

less-truth : row_less (Truth false) (Truth true) ≡ true
less-truth = refl

less-beginning : row_less (Bytes (97 ∷ [])) (Bytes (97 ∷ 98 ∷ [])) ≡ true
less-beginning = refl

less-bytes : row_less (Bytes (97 ∷ 98 ∷ [])) (Bytes (98 ∷ [])) ≡ true
less-bytes = refl

-- equal rows are at most and at least each other, and neither less nor greater
equal-at_most : row_at_most (Int (pos 3)) (Int (pos 3)) ≡ true
equal-at_most = refl

equal-at_least : row_at_least (Truth true) (Truth true) ≡ true
equal-at_least = refl

equal-greater : row_greater (Truth true) (Truth true) ≡ false
equal-greater = refl

-- a raw bit counts where both rows are present; else null is equal to null alone
joined-present : joined_bit (told Equal) false true true ≡ false
joined-present = refl

joined-null : joined_bit (told Equal) false false false ≡ true
joined-null = refl

joined-one : joined_bit (told Unequal) false true false ≡ true
joined-one = refl
