-- Words in lines that are no wider than the terminal.
--
-- In 6 columns the words ab, cde and f are the lines `ab cde` and `f`.
use Rattle.std.specs.List.{flat_map}
use Rattle.std.specs.Prelude.{ℕ, ◌-◌, nat_lt, if◌then◌else◌, List, [], ◌∷◌, ◌++◌, codes}
use Rattle.std.specs.Prelude.{encode_utf8_all}
use Rattle.diff_widths.specs.Cut.{cut, width}

-- words as lines, where earlier words stand in the first line already
abbrev pub filled : ℕ → List ℕ → List (List ℕ) → List (List ℕ)
filled n line [] = line ∷ []
filled n line (w ∷ ws) =
    if nat_lt (width (cut n w)) (n - width line) then filled n (line ++ 32 ∷ cut n w) ws else line ∷
    filled n (cut n w) ws

-- words as lines: the first word stands at the beginning of a line
abbrev pub paragraph : ℕ → List (List ℕ) → List (List ℕ)
paragraph n [] = []
paragraph n (w ∷ ws) = filled n (cut n w) ws

-- lines as bytes
abbrev pub texts_bytes : List (List ℕ) → List ℕ
texts_bytes = flat_map (λ l. encode_utf8_all l ++ codes "\n")
