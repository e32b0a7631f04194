-- Worked examples of the definitions.
use Rattle.std.specs.Prelude.{◌≡◌, ◌++◌, [], ◌∷◌, codes, refl}
use Rattle.diff_widths.specs.Cut.{char_columns, cut, ending, padded}
use Rattle.diff_aligned.specs.Paragraphs.{paragraph}
use Rattle.diff_aligned.specs.Shown.{escape, is_hidden, shown_char}
use Rattle.unicode_width.proofs.Computing.{unicode_width}

-- U+200B and U+E0041
joiner : shown_char 0x200B ≡ codes "\\u200b"
unfolding shown_char escape is_hidden
joiner = refl

tag : shown_char 0xE0041 ≡ codes "\\udb40\\udc41"
unfolding shown_char escape is_hidden
tag = refl

-- a text in nine columns, and in enough
first-words : cut 9 (codes "the first words") ≡ codes "the " ++ 0x2026 ∷ codes "ords"
unfolding cut char_columns unicode_width
first-words = refl

whole : cut 15 (codes "the first words") ≡ codes "the first words"
unfolding cut char_columns unicode_width
whole = refl

-- a wide character that has no room is left out, and the column is filled
wide : padded 4 (0x6771 ∷ 0x4EAC ∷ 0x90FD ∷ []) ≡ 0x6771 ∷ 0x2026 ∷ 32 ∷ []
unfolding padded cut char_columns unicode_width
wide = refl

-- a combining mark does not stand without its letter
mark : ending 2 (101 ∷ 0x301 ∷ 120 ∷ 121 ∷ []) ≡ codes "xy"
unfolding char_columns unicode_width
mark = refl

-- words in lines of 6 columns
filled-lines : paragraph 6 (codes "ab" ∷ codes "cde" ∷ codes "f" ∷ []) ≡ codes "ab cde" ∷ codes "f" ∷ []
unfolding cut char_columns unicode_width
filled-lines = refl
