-- Worked examples of the definitions.
use Rattle.std.specs.Prelude.{◌≡◌, ℕ, true, false, List, [], ◌∷◌, ◌++◌, Option, Some, None, refl}
use Rattle.polars_arrays_views.specs.Views.{row_bytes, view_len}
use Rattle.arrow_equality.specs.Lists.{equal_lists, items_of_both}
use Rattle.arrow_equality.specs.PartStrings.{same_strings}
use Rattle.arrow_equality.specs.Views.{same_rows}

-- of two parts with the strings `a`, an empty one and `a`, `b`, the first strings alone are equal
first-alone : same_strings ((97 ∷ []) ∷ [] ∷ []) ((97 ∷ []) ∷ (98 ∷ []) ∷ []) 2 ≡ true ∷ false ∷ []
first-alone = refl

-- the lists 1 2, 3 and 4, of which the second items differ, and the third left list is null
places-four : List (Option ℕ)
places-four = Some 0 ∷ Some 2 ∷ Some 3 ∷ Some 4 ∷ []

two-equal : equal_lists (true ∷ true ∷ false ∷ true ∷ []) places-four 3 ≡ true ∷ false ∷ true ∷ []
unfolding places-four
two-equal = refl

three-items : items_of_both (Some (true ∷ true ∷ false ∷ [])) None places-four 3 ≡ 3
unfolding places-four
three-items = refl

-- the views of `a` and of `b`
abbrev a_view : List ℕ
a_view = 1 ∷ 0 ∷ 0 ∷ 0 ∷ 97 ∷ 0 ∷ 0 ∷ 0 ∷ 0 ∷ 0 ∷ 0 ∷ 0 ∷ 0 ∷ 0 ∷ 0 ∷ 0 ∷ []

abbrev b_view : List ℕ
b_view = 1 ∷ 0 ∷ 0 ∷ 0 ∷ 98 ∷ 0 ∷ 0 ∷ 0 ∷ 0 ∷ 0 ∷ 0 ∷ 0 ∷ 0 ∷ 0 ∷ 0 ∷ 0 ∷ []

-- of two parts with the views of `a`, `b` and of `a`, `a`, the first rows alone are equal
first-view-alone : same_rows [] (a_view ++ b_view) [] (a_view ++ a_view) 2 ≡ true ∷ false ∷ []
unfolding row_bytes view_len
first-view-alone = refl
