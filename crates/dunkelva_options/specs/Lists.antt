-- Lists of texts with commas between them. A comma within quotes does not separate texts.
use Rattle.std.specs.Prelude.{ℕ, List, [], ◌∷◌, ◌++◌, Bool, false, cond, ◌==◌}
use Rattle.std.specs.List.{flat_map}
use Rattle.dunkelva_options.specs.declared.lists.Quoting.{Quoting}
use Rattle.dunkelva_options.specs.declared.lists.Quoting.TheVariants.{Outside, Inside, Escaped}

-- the place of the byte after x, which is at the given place
abbrev pub after : Quoting → ℕ → Quoting
after Outside x = cond (x == 34) Inside Outside
after Inside x = cond (x == 34) Outside (cond (x == 92) Escaped Inside)
after Escaped x = Inside

-- the byte x is a comma outside of quotes
abbrev pub is_end : Quoting → ℕ → Bool
is_end Outside x = x == 44
is_end Inside x = false
is_end Escaped x = false

-- the texts in what is left of a list, after the part of a text that was read
abbrev pub parts_from : Quoting → List ℕ → List ℕ → List (List ℕ)
parts_from q part [] = part ∷ []
parts_from q part (x ∷ xs) =
    cond (is_end q x) (part ∷ parts_from (after q x) [] xs)
    (parts_from (after q x) (part ++ x ∷ []) xs)

-- the texts of a list
abbrev pub list_parts : List ℕ → List (List ℕ)
list_parts list = parts_from Outside [] list

-- the texts of lists
abbrev pub all_parts : List (List ℕ) → List (List ℕ)
all_parts lists = flat_map list_parts lists
