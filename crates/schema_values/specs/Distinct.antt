-- The number of different elements of a list.
--
-- The list 7, 3, 7 has two different elements.
use Rattle.std.specs.List.{list_any}
use Rattle.std.specs.Prelude.{ℕ, ◌+◌, Bool, if◌then◌else◌, List, [], ◌∷◌}

-- the number of elements that are not the same as any element after them
abbrev pub distinct_total : {A : Type 0} → (A → A → Bool) → List A → ℕ
distinct_total same [] = 0
distinct_total same (x ∷ xs) = distinct_total same xs + (if list_any (same x) xs then 0 else 1)
