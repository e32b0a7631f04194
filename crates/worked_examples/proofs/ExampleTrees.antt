-- Worked examples of `SameTrees`: which bits are those of two arrays, and which are not.
use Rattle.std.specs.Prelude.{◌≡◌, ◌<◌, ◌↔◌, ℕ, zero, suc, Bool, pos, true, false, [], ◌∷◌, Some}
use Rattle.std.specs.Prelude.{None, refl, slice_index_or}
use Rattle.std.proofs.Common.{arith}
use Rattle.polars_arrays_flat.specs.Row.{Null, Int, Rows, no_rows, more_rows}
use Rattle.polars_arrays_nested.specs.AnyRows.{row}
use Rattle.polars_arrays_nested.specs.Lengths.{len_of}
use Rattle.polars_arrays_nested.specs.declared.any_array.AnyArray.{AnyArray, List'}
use Rattle.polars_arrays_nested.specs.declared.any_array.AnyArray.{Dictionary'}
use Rattle.polars_compare_nested.specs.Headline.{SameTrees}
use Rattle.worked_examples.proofs.ExampleArrays.{keys, numbers, offsets}

-- both hold, or neither does
both : {A B : Type 0} → A → B → A ↔ B
both a b = (λ _. b, λ _. a)

neither : {A B : Type 0} → ¬ A → ¬ B → A ↔ B
neither first second = (λ a. absurd (first a), λ b. absurd (second b))

-- three rows, one after another
three_rows : (told : Bool) (left right : AnyArray) (a b c : Bool) → 3 ≡ len_of left
    → (a ≡ told) ↔ (row left 0 ≡ row right 0) → (b ≡ told) ↔ (row left 1 ≡ row right 1)
    → (c ≡ told) ↔ (row left 2 ≡ row right 2) → SameTrees told left right (a ∷ b ∷ c ∷ [])
three_rows told left right a b c three first second third = record {
  size = three;
  at_each = λ i low. at i (omega (arith, three, low));
}
  where
    at : (i : ℕ) → i < 3
        → (slice_index_or (a ∷ b ∷ c ∷ []) i false ≡ told) ↔ (row left i ≡ row right i)
    at zero low = first
    at (suc zero) low = second
    at (suc (suc zero)) low = third
    at (suc (suc (suc i))) low = absurd (omega (arith, low))

-- a bit is set or not
not-set : ¬ (false ≡ true)
not-set e = cc

not-clear : ¬ (true ≡ false)
not-clear e = cc

-- 3 is not 4, as a row and in a list
other-number : ¬ (Int (pos 3) ≡ Int (pos 4))
other-number e = cc

other-list : ¬ (Rows (more_rows (Int (pos 3)) no_rows) ≡ Rows (more_rows (Int (pos 4)) no_rows))
other-list e = cc

-- the rows 1, null, 3, where 9 is stored under the null
abbrev one_null_three : AnyArray
one_null_three = numbers (pos 1 ∷ pos 9 ∷ pos 3 ∷ []) (Some (true ∷ false ∷ true ∷ []))

-- the rows 1, null, 4, where 7 is stored under the null
abbrev one_null_four : AnyArray
one_null_four = numbers (pos 1 ∷ pos 7 ∷ pos 4 ∷ []) (Some (true ∷ false ∷ true ∷ []))

-- the trees of the rows 1, null, 3 and 1, null, 4 are the same in rows 0 and 1 alone
numbers-equal : SameTrees true one_null_three one_null_four (true ∷ true ∷ false ∷ [])
numbers-equal = three_rows true one_null_three one_null_four true true false refl
    (both refl refl) (both refl refl) (neither not-set other-number)

-- so the bits of the kernel of inequality are the opposite ones
numbers-unequal : SameTrees false one_null_three one_null_four (false ∷ false ∷ true ∷ [])
numbers-unequal = three_rows false one_null_three one_null_four false false true refl
    (both refl refl) (both refl refl) (neither not-clear other-number)

-- null equals null: a bit that is not set there is wrong
null-not_unequal : ¬ (SameTrees true one_null_three one_null_four (true ∷ false ∷ false ∷ []))
null-not_unequal h = let set : false ≡ true = (h.at_each 1 (omega arith)).1 refl in cc

-- a bit for each row: two bits are too few
numbers-too_few : ¬ (SameTrees true one_null_three one_null_four (true ∷ true ∷ []))
numbers-too_few h = let two : 2 ≡ 3 = h.size in omega (arith, two)

-- the rows 1 and null, where 0 is stored under the null
abbrev one_null : AnyArray
one_null = numbers (pos 1 ∷ pos 0 ∷ []) (Some (true ∷ false ∷ []))

-- the rows 1 and 0
abbrev one_zero : AnyArray
one_zero = numbers (pos 1 ∷ pos 0 ∷ []) None

-- null is not the 0 that is stored under it
null-not_zero : ¬ (SameTrees true one_null one_zero (true ∷ true ∷ []))
null-not_zero h = let same : Null ≡ Int (pos 0) = (h.at_each 1 (omega arith)).0 refl in cc

-- the items 1, null, 5, 3
abbrev left_items : AnyArray
left_items = numbers (pos 1 ∷ pos 9 ∷ pos 5 ∷ pos 3 ∷ []) (Some (true ∷ false ∷ true ∷ true ∷ []))

-- the items 8, 1, null, 4
abbrev right_items : AnyArray
right_items = numbers (pos 8 ∷ pos 1 ∷ pos 7 ∷ pos 4 ∷ []) (Some (true ∷ true ∷ false ∷ true ∷ []))

-- The lists of 1 and null, a null list, and the list of 3 are compared with the lists of 1 and
-- null, a null list, and the list of 4. The left null list has an item, the right one has none, and
-- the first right item is in no list.
lists-equal : (p q : _)
    → SameTrees true
    (List' (offsets (pos 0 ∷ pos 2 ∷ pos 3 ∷ pos 4 ∷ [])) p left_items
    (Some (true ∷ false ∷ true ∷ [])))
    (List' (offsets (pos 1 ∷ pos 3 ∷ pos 3 ∷ pos 4 ∷ [])) q right_items
    (Some (true ∷ false ∷ true ∷ [])))
    (true ∷ true ∷ false ∷ [])
lists-equal p q = three_rows true _ _ true true false refl
    (both refl refl) (both refl refl) (neither not-set other-list)

-- an empty list is not a null one
empty-not_null : (p q : _)
    → ¬ (SameTrees true (List' (offsets (pos 0 ∷ pos 0 ∷ [])) p left_items None)
    (List' (offsets (pos 0 ∷ pos 0 ∷ [])) q left_items (Some (false ∷ []))) (true ∷ []))
empty-not_null p q h =
    let same : Rows no_rows ≡ Null = (h.at_each 0 (omega arith)).0 refl in cc

-- The rows of a dictionary are the entries that its keys name: here 3, a key that names a null
-- entry, and a masked key, against 3 and two masked keys.
dictionaries-equal : (p q : _)
    → SameTrees true
    (Dictionary' (keys (2 ∷ 1 ∷ 99 ∷ []) (Some (true ∷ true ∷ false ∷ []))) p one_null_three)
    (Dictionary' (keys (0 ∷ 0 ∷ 0 ∷ []) (Some (true ∷ false ∷ false ∷ []))) q
    (numbers (pos 3 ∷ []) None))
    (true ∷ true ∷ true ∷ [])
dictionaries-equal p q = three_rows true _ _ true true true refl
    (both refl refl) (both refl refl) (both refl refl)
