-- Laws of normal forms and of their texts.
use Rattle.std.specs.List.Sorted.{IsPermutation}
use Rattle.std.specs.Prelude.{◌≡◌, ◌≤◌, ◌↔◌, ℕ, List, length, Some}
use Rattle.json.specs.Json.{Json, Members, object, max_depth, document}
use Rattle.json.specs.Print.{IsNumber}
use Rattle.json.specs.Strict.{keys, AreDistinct, HasUniqueKeys}
use Rattle.json.specs.Tree.{depth}
use Rattle.json_decimals.specs.Decimals.{parts_of, unsigned}
use Rattle.json_normal.specs.Normal.{normal, normal_text, entries}
use Rattle.json_normal.specs.Same.{AreSame}

-- an object's members may stand in any order
abbrev pub MembersInAnyOrder : Type 0
MembersInAnyOrder = (ms ns : Members) → AreDistinct (keys ms)
    → IsPermutation (entries ms) (entries ns) → normal (object ms) ≡ normal (object ns)

-- two values are the same if and only if their normal forms are equal
abbrev pub NormalFormsTell : Type 0
NormalFormsTell = (j k : Json) → HasUniqueKeys j → HasUniqueKeys k → AreSame j k
    ↔ (normal j ≡ normal k)

-- two values are the same if and only if their normal texts are equal
abbrev pub NormalTextsTell : Type 0
NormalTextsTell = (j k : Json) → HasUniqueKeys j → HasUniqueKeys k → AreSame j k
    ↔ (normal_text j ≡ normal_text k)

-- a normal text is JSON, and its value is the normal form
abbrev pub TextReadsBack : Type 0
TextReadsBack = (j : Json) → depth j ≤ max_depth → document (normal_text j) ≡ Some (normal j)

-- the value of a number is read from the whole of its text: its sign and the numeral after it
abbrev pub NumbersAreReadWhole : Type 0
NumbersAreReadWhole = (s : List ℕ) → IsNumber s → (parts_of s).len ≡ length (unsigned s)
