-- Worked examples of the definitions: the check computes both sides of each.
use Rattle.std.specs.Prelude.{◌≡◌, true, [], ◌∷◌, refl}
use Rattle.polars_arrays_views.specs.Views.{followed_eq, followed_lt}
use Rattle.polars_compare_leaves.specs.Order.{row_less}
use Rattle.polars_compare_leaves.specs.Sameness.{same_row}
use Rattle.polars_compare_leaves.specs.Followed.{pair_cost, followed}
use Rattle.polars_compare_leaves.specs.Pairs.{compared_pair}

-- thirteen zero bytes beside no byte: of different lengths, and with one prefix filled up
equality-follows_none : followed followed_eq ([] ∷ []) ((0 ∷ 0 ∷ 0 ∷ 0 ∷ 0 ∷ 0 ∷ 0 ∷ 0 ∷ 0 ∷ 0 ∷ 0 ∷ 0 ∷ 0 ∷ []) ∷ []) 0 0 1 ≡ 0
equality-follows_none = refl

order-follows_one : followed followed_lt ([] ∷ []) ((0 ∷ 0 ∷ 0 ∷ 0 ∷ 0 ∷ 0 ∷ 0 ∷ 0 ∷ 0 ∷ 0 ∷ 0 ∷ 0 ∷ 0 ∷ []) ∷ []) 0 0 1 ≡ 1
order-follows_one = refl

-- short rows are never followed
short-costs_nothing : pair_cost followed_lt ((97 ∷ []) ∷ []) ((97 ∷ []) ∷ []) 0 0 0 ≡ 0
short-costs_nothing = refl

-- the pair at place 0 from place 1 of the left strings and from place 0 of the right ones
second-first : compared_pair same_row ((97 ∷ []) ∷ (98 ∷ []) ∷ []) ((98 ∷ []) ∷ []) 1 0 0 ≡ true
second-first = refl

first-first : compared_pair row_less ((97 ∷ []) ∷ []) ((97 ∷ 0 ∷ []) ∷ []) 0 0 0 ≡ true
first-first = refl
