-- Texts of JSON that stay within a code span in a cell of a table.
--
-- A backquote would end the span, and a bar the cell. In JSON both stand in strings alone, where
-- \u0060 and \u007c are the same characters: "a|b" is written "a\u007cb". Control characters that
-- JSON lets stand as they are, from U+007F to U+009F, go likewise.
use Rattle.std.specs.Fmt.{digit_glyph}
use Rattle.std.specs.Prelude.{ℕ, ◌/◌, ◌%◌, ◌==◌, Bool, false, ◌&&◌, ◌||◌, nat_lt, if◌then◌else◌}
use Rattle.std.specs.Prelude.{List, [], ◌∷◌, ◌++◌, get_or, codes}

-- two bytes that are a control character from U+0080 to U+009F in UTF-8
abbrev pub is_high_control : ℕ → ℕ → Bool
is_high_control first second = first == 194 && nat_lt 127 second && nat_lt second 160

-- a byte that is a backquote, a bar or U+007F, or the last byte of a character from U+0080 to
-- U+009F, which has the number of that character
abbrev pub is_escaped : ℕ → ℕ → Bool
is_escaped before b = b == 96 || b == 124 || b == 127 || is_high_control before b

-- a character below 256 as `\u` and four hexadecimal digits
abbrev pub unicode_escape : ℕ → List ℕ
unicode_escape c = codes "\\u00" ++ digit_glyph false (c / 16) ∷ digit_glyph false (c % 16) ∷ []

-- the text that stands for a byte between two others: none for the first byte of a character from
-- U+0080 to U+009F
unfoldable pub safe_byte : ℕ → ℕ → ℕ → List ℕ
safe_byte before b after =
    if is_high_control b after then [] else
    (if is_escaped before b then unicode_escape b else b ∷ [])

-- the bytes of a text that stand after another one, where 0 stands for none
abbrev pub safe_behind : ℕ → List ℕ → List ℕ
safe_behind before [] = []
safe_behind before (b ∷ bs) = safe_byte before b (get_or bs 0 0) ++ safe_behind b bs

-- a text as it stands within a code span in a cell
unfoldable pub safe : List ℕ → List ℕ
safe text = safe_behind 0 text
