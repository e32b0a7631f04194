-- The normal form of a JSON value: members in the order of their names, and numbers in one form.
--
-- The normal text of {"b": 1.50, "a": [10]} is {"a":[1e1],"b":15e-1}.
use Rattle.std.specs.Borrow.{Bor}
use Rattle.std.specs.Cmp.Lexicographic.{slice_cmp}
use Rattle.std.specs.Ordering.{nat_cmp, match_ordering}
use Rattle.std.specs.Prelude.{ℕ, List, [], ◌∷◌}
use Rattle.json.specs.Json.{Json, null, boolean, number, string, array, object, Items, no_items}
use Rattle.json.specs.Json.{item, Members, no_members, member}
use Rattle.json.specs.Print.{print}
use Rattle.json.specs.Tree.{json_tokens}
use Rattle.json.specs.Value.{value_view}
use Rattle.json.specs.declared.value.Value.{Value}
use Rattle.json_decimals.specs.Texts.{normal_number}

-- a member's name and its value
abbrev pub Entry : Type 0
Entry = List ℕ × Json

-- entries with one more, which is put before the first whose name is not below its own
abbrev pub put_in : Entry → List Entry → List Entry
put_in m [] = m ∷ []
put_in m (n ∷ ns) =
    match_ordering (slice_cmp nat_cmp m.0 n.0) (m ∷ n ∷ ns) (m ∷ n ∷ ns) (n ∷ put_in m ns)

-- entries in the order of their names
abbrev pub in_order : List Entry → List Entry
in_order [] = []
in_order (m ∷ ms) = put_in m (in_order ms)

-- entries, as the members of an object
abbrev pub members_from : List Entry → Members
members_from [] = no_members
members_from (m ∷ ms) = member m.0 m.1 (members_from ms)

abbrev mutual
  -- a value in its normal form
  pub normal : Json → Json
  normal null = null
  normal (boolean b) = boolean b
  normal (number s) = number (normal_number s)
  normal (string s) = string s
  normal (array js) = array (normal_items js)
  normal (object ms) = object (members_from (in_order (normal_entries ms)))

  -- an array's items in their normal forms
  pub normal_items : Items → Items
  normal_items no_items = no_items
  normal_items (item j js) = item (normal j) (normal_items js)

  -- an object's members in their order, each with its value in its normal form
  pub normal_entries : Members → List Entry
  normal_entries no_members = []
  normal_entries (member k j ms) = (k, normal j) ∷ normal_entries ms

-- the bytes of a value's normal form, with no space between them
abbrev pub normal_text : Json → List ℕ
normal_text j = print (json_tokens (normal j))

-- the normal entry of a member that is borrowed
abbrev pub entry_of : {A : Type 0} → Bor (Bor (List ℕ) × Value A) → Entry
entry_of m = (m.now.0.now, normal (value_view m.now.1))

-- an object's members, in their order
abbrev pub entries : Members → List Entry
entries no_members = []
entries (member k j ms) = (k, j) ∷ entries ms
