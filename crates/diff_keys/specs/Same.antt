-- Rows of two tables that are the same, key by key.
--
-- By their first cells the rows "a" "1", "b" "2", "a" "3" and the rows "b" "2", "a" "1", "a" "3"
-- are the same: of the key "a" both tables have "a" "1" and then "a" "3", and of the key "b" "b"
-- "2".
use Rattle.std.specs.List.{filter}
use Rattle.std.specs.Prelude.{◌≡◌, ℕ, List}
use Rattle.std.specs.Str.{bytes_eq}

-- the rows of a table that have the key k, in their order
abbrev pub rows_with : {R : Type 0} → (R → List ℕ) → List ℕ → List R → List R
rows_with key k rows = filter (λ r. bytes_eq (key r) k) rows

-- of each key the two tables have the same rows, in the same order
abbrev pub AreSameByKey : {R : Type 0} → (R → List ℕ) → List R → List R → Type 0
AreSameByKey key left right = (k : List ℕ) → rows_with key k left ≡ rows_with key k right
