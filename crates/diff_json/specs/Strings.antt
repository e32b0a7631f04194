-- Strings of JSON, in which each control character is escaped.
--
-- The bytes a, ", line feed, 27 and 255 have the string "a\"\n\u001b", with U+FFFD before the last
-- quote.
use Rattle.std.specs.Char.{encode_utf8, is_control}
use Rattle.std.specs.Fmt.{digit_glyph}
use Rattle.std.specs.List.{flat_map}
use Rattle.std.specs.Prelude.{ℕ, ◌/◌, ◌%◌, false, if◌then◌else◌, List, [], ◌∷◌, ◌++◌, Option, Some}
use Rattle.std.specs.Prelude.{None, codes}
use Rattle.bstr.specs.Utf8.{lossy_chars}
use Rattle.diff_words.specs.Quoted.{letter_of}

-- a character below 256 as `\u` and four hexadecimal digits
abbrev pub escape_text : ℕ → List ℕ
escape_text c = codes "\\u00" ++ digit_glyph false (c / 16) ∷ digit_glyph false (c % 16) ∷ []

-- a character with this letter, or without one
abbrev pub text_by : Option ℕ → ℕ → List ℕ
text_by (Some letter) c = 92 ∷ letter ∷ []
text_by None c = if is_control c then escape_text c else encode_utf8 c

-- a character of a string
unfoldable pub char_text : ℕ → List ℕ
char_text c = text_by (letter_of c) c

-- the string of some bytes, in which U+FFFD stands for bytes that are not UTF-8
unfoldable pub json_string : List ℕ → List ℕ
json_string bytes = 34 ∷ flat_map char_text (lossy_chars bytes) ++ 34 ∷ []
