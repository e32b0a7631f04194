-- Lists that are compared item by item.
--
-- Of the lists 1 2, 3, null on one side and 1 2, 4, 5 on the other, with the offsets 0, 2, 3, 4 on
-- both sides, the bits are 1, 0, 0 and the count of comparisons is 3.
use Rattle.std.specs.Prelude.{◌≡◌, ◌<◌, ◌≤◌, ◌+◌, ◌-◌, ◌^◌, ◌&&◌, ℕ, zero, suc, Bool, true}
use Rattle.std.specs.Prelude.{List, [], ◌∷◌}
use Rattle.std.specs.Prelude.{Option, IsTrue, cond, length, min}
use Rattle.std.specs.List.{list_all}
use Rattle.std.specs.Str.{IsUtf8}
use Rattle.polars_arrays_bytes.specs.OffsetStrings.{AreGood, row_count}
use Rattle.polars_arrays_flat.specs.Validity.{is_present, window}
use Rattle.polars_arrays_words.specs.Bits.{first_of}
use Rattle.polars_compare_leaves.specs.Joining.{Joined}
use Rattle.polars_compare_nested.specs.Leaf.{is_leaf}
use Rattle.polars_compare_nested.specs.Runs.{IsSpan}
use Rattle.arrow_parts.specs.Lent.{present_in}
use Rattle.arrow_parts.specs.declared.part.Part.{Part}
use Rattle.arrow_arrays.specs.Columns.{placed, rows_of_parts}
use Rattle.arrow_arrays.specs.Good.{AreGoodParts, HoldRows}
use Rattle.arrow_equality.specs.Equal.{IsComparison}
use Rattle.arrow_equality.specs.declared.compared.Compared.{Compared}

-- the number of items between places i and i + 1
abbrev pub list_size : List (Option ℕ) → ℕ → ℕ
list_size all i = placed all (i + 1) - placed all i

-- each of the first n lists lies between two places that do not decrease
abbrev pub AreSpans : List (Option ℕ) → ℕ → Type 0
AreSpans all n = (i : ℕ) → i < n → IsSpan all i

-- each of the first n lists lies within `count` items
abbrev pub AreWithin : ℕ → List (Option ℕ) → ℕ → Type 0
AreWithin count all n = (i : ℕ) → i < n → placed all i + list_size all i ≤ count

-- whether the bits of all items of list i are set
abbrev pub is_equal_list : List Bool → List (Option ℕ) → ℕ → Bool
is_equal_list items all i = list_all (λ b. b) (window (placed all i) (list_size all i) items)

-- for each of the first n lists, whether the bits of all its items are set
abbrev pub equal_lists : List Bool → List (Option ℕ) → ℕ → List Bool
equal_lists items all n = first_of (is_equal_list items all) n

-- the number of items of those of the first n lists that are present on both sides
abbrev pub items_of_both : Option (List Bool) → Option (List Bool) → List (Option ℕ) → ℕ → ℕ
items_of_both left right all zero = 0
items_of_both left right all (suc n) =
    items_of_both left right all n
    + cond (is_present left n && is_present right n) (list_size all n) 0

-- a part of lists has a name in UTF-8, and holds one array: a part of leaves
pub record HoldsLeaves (p items : Part) : Type 0 where
  pub name : IsUtf8 p.name.now
  pub children : p.children ≡ 1
  pub leaves : IsTrue (is_leaf (rows_of_parts (items ∷ [])).kind)

-- the places of the lists of two parts, of equally many rows, are the same, and lie among n items
pub record AreAlikeLists (s t : Part) (all others : List (Option ℕ)) (n : ℕ) : Type 0 where
  pub count : row_count all ≡ s.rows
  pub one_length : s.rows ≡ t.rows
  pub good : AreGood n all
  pub alike : others ≡ all

-- the comparison of two parts of lists, with the same places of lists, and with the parts of their
-- items: a bit for each row, null equal to null alone, and a comparison for each item of two lists
-- that are present
pub record AreListsCompared (s q t r : Part) (all others : List (Option ℕ)) (c : Compared) :
    Type 0 where
  pub items : Compared
  pub left_holds : HoldsLeaves s q
  pub right_holds : HoldsLeaves t r
  pub left_good : AreGoodParts (q ∷ [])
  pub right_good : AreGoodParts (r ∷ [])
  pub compared : IsComparison (rows_of_parts (q ∷ [])) (rows_of_parts (r ∷ [])) items
  pub lists : AreAlikeLists s t all others (length items.bits)
  pub left_held : HoldRows s
  pub right_held : HoldRows t
  pub joined : Joined true (present_in s) (present_in t) (equal_lists items.bits all s.rows) c.bits
  pub count : c.comparisons
      ≡ min (items_of_both (present_in s) (present_in t) all s.rows) (2 ^ 64 - 1)
