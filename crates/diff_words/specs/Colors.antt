-- Colours of texts on a terminal.
--
-- In red the text ab is ESC[31mabESC[0m, and without colours ab.
use Rattle.std.specs.Prelude.{ℕ, Bool, if◌then◌else◌, List, [], ◌∷◌, ◌++◌, codes}
use Rattle.diff_words.specs.declared.colors.Color.{Color}
use Rattle.diff_words.specs.declared.colors.Color.TheVariants.{Plain, Red, Green, Yellow}

-- the bytes that switch a terminal to a colour
abbrev pub color_code : Color → List ℕ
color_code Plain = 27 ∷ codes "[0m"
color_code Red = 27 ∷ codes "[31m"
color_code Green = 27 ∷ codes "[32m"
color_code Yellow = 27 ∷ codes "[33m"

-- the bytes that switch a terminal to a colour, if the report has colours, and otherwise none
unfoldable pub color_text : Bool → Color → List ℕ
color_text colored color = if colored then color_code color else []

-- a text, in a colour if the report has colours
unfoldable pub painted : Bool → Color → List ℕ → List ℕ
painted colored color text = color_text colored color ++ text ++ color_text colored Plain
