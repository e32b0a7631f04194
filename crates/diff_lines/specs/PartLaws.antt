-- Parts of values, and members and items one after another.
use Rattle.std.proofs.Common.{◌≡◌, ◌<◌, ◌+◌, ℕ, zero, suc, List, [], ◌∷◌, Option, Some, None}
use Rattle.std.proofs.Common.{IfSome, length, get_or, drop, arith, ap, sym, ◌∙◌}
use Rattle.std.proofs.lemmas.List.{drop_more}
use Rattle.std.specs.Borrow.{Bor}
use Rattle.std.specs.Prelude.{option_map}
use Rattle.json.specs.Find.{get}
use Rattle.json.specs.Json.{Json}
use Rattle.json.specs.Tree.{HasNumbers, ItemsHaveNumbers, MembersHaveNumbers}
use Rattle.json.specs.Value.{items_view, members_view, value_view}
use Rattle.json.specs.declared.value.Value.{Value}
use Rattle.json.proofs.Numbered.{HasNumbers-get}

-- a member as it is stored
abbrev pub Pair : Type 0 → Type 0
Pair A = Bor (List ℕ) × Value A

-- the numbers of a part are numbers
pub part_numbers : {A : Type 0} (o : Option (Bor (Value A))) (name : List ℕ) (j : Json)
    → HasNumbers j → option_map (λ v. value_view v.now) o ≡ get name j
    → IfSome o (λ v. HasNumbers (value_view v.now))
part_numbers None name j h e = tt
part_numbers (Some v) name j h e = HasNumbers-get name j (value_view v.now) h e

-- the numbers of a member, and of an item, are numbers
pub member_numbers : {A : Type 0} (ms : List (Pair A)) (i : ℕ) (d : Pair A) → i < length ms
    → MembersHaveNumbers (members_view ms) → HasNumbers (value_view (get_or ms i d).1)
member_numbers [] i d within h = absurd (omega (arith, within))
member_numbers (m ∷ ms) zero d within h = h.0
member_numbers (m ∷ ms) (suc i) d within h = member_numbers ms i d (omega (arith, within)) h.1

pub item_numbers : {A : Type 0} (js : List (Value A)) (i : ℕ) (d : Value A) → i < length js
    → ItemsHaveNumbers (items_view js) → HasNumbers (value_view (get_or js i d))
item_numbers [] i d within h = absurd (omega (arith, within))
item_numbers (j ∷ js) zero d within h = h.0
item_numbers (j ∷ js) (suc i) d within h = item_numbers js i d (omega (arith, within)) h.1

-- the element at a place is the first of the rest of the list from there
pub first_of_rest : {X : Type 0} (xs : List X) (i : ℕ) (x : X) → i < length xs → x ≡ get_or xs i x
    → drop i xs ≡ x ∷ drop (i + 1) xs
first_of_rest xs i x within is = drop_more xs i x within ∙ ap (λ y. y ∷ drop (i + 1) xs) (sym is)
