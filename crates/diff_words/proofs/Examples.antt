-- Worked examples of the definitions.
use Rattle.std.specs.Prelude.{◌≡◌, ◌++◌, [], ◌∷◌, true, false, Some, codes, refl}
use Rattle.diff_words.specs.Cells.{cell_text}
use Rattle.diff_words.specs.Colors.{color_text, painted}
use Rattle.diff_words.specs.Lists.{listed}
use Rattle.diff_words.specs.Quoted.{byte_text, quoted}
use Rattle.diff_words.specs.Words.{word_text}
use Rattle.diff_words.specs.declared.colors.Color.TheVariants.{Red}

-- the bytes a, ", line feed and 27
quoted-bytes : quoted (97 ∷ 34 ∷ 10 ∷ 27 ∷ []) ≡ codes "\"a\\\"\\n\\x1b\""
unfolding quoted byte_text
quoted-bytes = refl

-- the bytes of U+009B and of U+00B0, a degree sign
high-bytes : quoted (194 ∷ 155 ∷ 194 ∷ 176 ∷ []) ≡ 34 ∷ codes "\\xc2\\x9b" ++ 194 ∷ 176 ∷ 34 ∷ []
unfolding quoted byte_text
high-bytes = refl

-- a word needs no quotes
word-is-bare : word_text (codes "4411") ≡ codes "4411"
unfolding word_text
word-is-bare = refl

-- a space does
space-is-quoted : word_text (codes "a b") ≡ codes "\"a b\""
unfolding word_text quoted byte_text
space-is-quoted = refl

-- no byte is no word
nothing-is-quoted : word_text [] ≡ codes "\"\""
unfolding word_text quoted
nothing-is-quoted = refl

-- the cell that stands for no value
null-cell : cell_text (Some (codes "NA")) (codes "NA") ≡ codes "null"
unfolding cell_text
null-cell = refl

-- another cell
other-cell : cell_text (Some (codes "NA")) (codes "NB") ≡ codes "\"NB\""
unfolding cell_text quoted byte_text
other-cell = refl

-- three elements
three-listed : listed (codes ", ") (codes "a" ∷ codes "b" ∷ codes "c" ∷ []) ≡ codes "a, b, c"
unfolding listed
three-listed = refl

-- a red text
red-text : painted true Red (codes "ab") ≡ 27 ∷ codes "[31mab" ++ 27 ∷ codes "[0m"
unfolding painted color_text
red-text = refl

-- the same without colours
bare-text : painted false Red (codes "ab") ≡ codes "ab"
unfolding painted color_text
bare-text = refl
