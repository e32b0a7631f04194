-- Laws: the parts of two tables make the tables. A table is here the list of its rows' keys, and a
-- test of keys says which rows are kept.
--
-- Of the keys "a", "b", "a" a test that has "a" alone keeps "a", "a", from the places 0 and 2.
use Rattle.std.specs.List.{filter}
use Rattle.std.specs.Prelude.{◌≡◌, ◌≤◌, ◌<◌, ◌↔◌, ℕ, suc, Bool, true, List, [], map, length, get_or}
use Rattle.diff_keys.specs.Matching.{IsAdded, IsRemoved}
use Rattle.diff_keys.specs.Partners.{Keys, ArePartners, key_at}
use Rattle.diff_parts.specs.Parts.{in_part, numbers_kept}

-- row k of those that are kept stands at this place of the table
abbrev pub place_of : (List ℕ → Bool) → Keys → ℕ → ℕ
place_of keeps keys k = get_or (numbers_kept keeps 0 keys) k 0

-- each key is in one of the parts, and in no other
abbrev pub EachKeyHasAPart : Type 0
EachKeyHasAPart = (count : ℕ) (key : List ℕ) → 1 ≤ count
    → (index : ℕ) × (1 ≤ index) × (index ≤ count)
    × (in_part (record { index = index; count = count }) key ≡ true)
    × ((other : ℕ) → 1 ≤ other → other ≤ count
    → in_part (record { index = other; count = count }) key ≡ true → other ≡ index)

-- the rows that are kept are those of the keys that the test has, in their order
abbrev pub KeepsPlaces : Type 0
KeepsPlaces = (keeps : List ℕ → Bool) (keys : Keys)
    → (length (numbers_kept keeps 0 keys) ≡ length (filter keeps keys))
    × ((i : ℕ) → ((i < length keys) × (keeps (key_at keys i) ≡ true))
    ↔ ((k : ℕ) × (k < length (filter keeps keys)) × (place_of keeps keys k ≡ i)))
    × ((k : ℕ) → suc k < length (filter keeps keys)
    → place_of keeps keys k < place_of keeps keys (suc k))

-- the rows of cells that have these keys are kept as they are
abbrev pub KeepsRows : Type 0
KeepsRows = (key : List (List ℕ) → List ℕ) (keeps : List ℕ → Bool) (rows : List (List (List ℕ)))
    → (map key (filter (λ row. keeps (key row)) rows) ≡ filter keeps (map key rows))
    × (numbers_kept (λ row. keeps (key row)) 0 rows ≡ numbers_kept keeps 0 (map key rows))
    × ((k : ℕ) → k < length (filter keeps (map key rows))
    → get_or (filter (λ row. keeps (key row)) rows) k []
    ≡ get_or rows (place_of keeps (map key rows) k) [])

-- two rows that are kept are partners exactly where they are so in the whole tables
abbrev pub KeepsPartners : Type 0
KeepsPartners = (keeps : List ℕ → Bool) (left right : Keys) (i j : ℕ)
    → i < length (filter keeps left) → j < length (filter keeps right)
    → ArePartners (filter keeps left) (filter keeps right) i j
    ↔ ArePartners left right (place_of keeps left i) (place_of keeps right j)

-- a left row that is kept has no partner exactly where it has none in the whole tables
abbrev pub KeepsRemoved : Type 0
KeepsRemoved = (keeps : List ℕ → Bool) (left right : Keys) (i : ℕ) → i < length (filter keeps left)
    → IsRemoved (filter keeps left) (filter keeps right) i
    ↔ IsRemoved left right (place_of keeps left i)

-- a right row that is kept has no partner exactly where it has none in the whole tables
abbrev pub KeepsAdded : Type 0
KeepsAdded = (keeps : List ℕ → Bool) (left right : Keys) (j : ℕ) → j < length (filter keeps right)
    → IsAdded (filter keeps left) (filter keeps right) j
    ↔ IsAdded left right (place_of keeps right j)
