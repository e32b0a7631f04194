-- Lists with a separator between two elements.
--
-- The elements a, b and c with the separator ", " are listed as a, b, c.
use Rattle.std.specs.List.{flat_map}
use Rattle.std.specs.Prelude.{ℕ, zero, suc, List, [], ◌∷◌, ◌++◌}

-- the text before element n
abbrev pub gap : List ℕ → ℕ → List ℕ
gap separator zero = []
gap separator (suc n) = separator

-- the elements, with the separator before each one except the first
unfoldable pub listed : List ℕ → List (List ℕ) → List ℕ
listed separator [] = []
listed separator (x ∷ xs) = x ++ flat_map (λ y. separator ++ y) xs
