-- The rows of an array, made of its stored rows and its mask.
use Rattle.std.specs.Prelude.{◌≡◌, ◌<◌, ℕ, ℤ, Bool, true, false, List, [], ◌∷◌, Option, Some, None}
use Rattle.std.specs.Prelude.{length, map, slice_index_or}
use Rattle.polars_arrays_flat.specs.Row.{Row, Null, Int, Truth, Bytes}

-- row i, or Null past the end
abbrev pub row : List Row → ℕ → Row
row rows i = slice_index_or rows i Null

-- a row if it is present, else Null
abbrev pub kept : Bool → Row → Row
kept true row = row
kept false row = Null

-- stored rows, with Null in place of those whose bit is 0
abbrev pub masked : List Bool → List Row → List Row
masked [] rows = []
masked (bit ∷ bits) [] = []
masked (bit ∷ bits) (row ∷ rows) = kept bit row ∷ masked bits rows

-- stored rows, with Null in place of those that a validity masks, if there is one
abbrev pub rows_under : Option (List Bool) → List Row → List Row
rows_under None rows = rows
rows_under (Some bits) rows = masked bits rows

-- stored numbers as rows; `value` gives their whole numbers
abbrev pub number_slots : {A : Type 0} → (A → ℤ) → List A → List Row
number_slots value xs = map (λ x. Int (value x)) xs

-- stored truth values as rows
abbrev pub truth_slots : List Bool → List Row
truth_slots bits = map Truth bits

-- stored byte strings as rows; a text is its UTF-8
abbrev pub byte_slots : List (List ℕ) → List Row
byte_slots strings = map Bytes strings

-- if a row is stored as Null, neither of two arrays has a validity, and they are of one type
abbrev pub NullSlots : List Row → Option (List Bool) → Option (List Bool) → Type 0 → ℕ → Type 0
NullSlots slots left right one_type i =
    i < length slots → row slots i ≡ Null → (left ≡ None) × (right ≡ None) × one_type
