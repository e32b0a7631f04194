-- Byte strings between quotes, whose text has no control character.
--
-- The bytes a, ", line feed and 27 have the text "a\"\n\x1b", and those of U+009B have the text
-- "\xc2\x9b".
use Rattle.std.specs.Fmt.{digit_glyph}
use Rattle.std.specs.Prelude.{ℕ, ◌/◌, ◌%◌, ◌==◌, Bool, false, ◌&&◌, ◌||◌, nat_lt, if◌then◌else◌}
use Rattle.std.specs.Prelude.{List, [], ◌∷◌, ◌++◌, get_or, Option, Some, None}

-- the letter that stands after a backslash for a quote, a backslash, a line feed, a carriage
-- return and a tab
abbrev pub letter_of : ℕ → Option ℕ
letter_of b = if b ==
    34 then Some 34 else
    (if b == 92 then Some 92 else
    (if b == 10 then Some 110 else
    (if b == 13 then Some 114 else (if b == 9 then Some 116 else None))))

-- a control character of ASCII
abbrev pub is_control : ℕ → Bool
is_control b = nat_lt b 32 || b == 127

-- a byte as `\x` and two hexadecimal digits
abbrev pub hex_text : ℕ → List ℕ
hex_text b = 92 ∷ 120 ∷ digit_glyph false (b / 16) ∷ digit_glyph false (b % 16) ∷ []

-- two bytes that are a control character from U+0080 to U+009F in UTF-8
abbrev pub is_high_control : ℕ → ℕ → Bool
is_high_control first second = first == 194 && nat_lt 127 second && nat_lt second 160

-- a byte between two others is a control character, or half of one
abbrev pub is_hidden : ℕ → ℕ → ℕ → Bool
is_hidden before b after = is_control b || is_high_control before b || is_high_control b after

-- a byte with this letter, or without one
abbrev pub text_by : Option ℕ → Bool → ℕ → List ℕ
text_by (Some letter) hidden b = 92 ∷ letter ∷ []
text_by None hidden b = if hidden then hex_text b else b ∷ []

-- a byte of a quoted text, between two others
unfoldable pub byte_text : ℕ → ℕ → ℕ → List ℕ
byte_text before b after = text_by (letter_of b) (is_hidden before b after) b

-- the bytes of a quoted text that stand after another one, where 0 stands for none
abbrev pub texts_behind : ℕ → List ℕ → List ℕ
texts_behind before [] = []
texts_behind before (b ∷ bs) = byte_text before b (get_or bs 0 0) ++ texts_behind b bs

-- a byte string between quotes
unfoldable pub quoted : List ℕ → List ℕ
quoted bytes = 34 ∷ texts_behind 0 bytes ++ 34 ∷ []
