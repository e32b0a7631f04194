-- JSON texts without the control characters from U+007F to U+009F, which JSON lets stand in a
-- string as they are.
--
-- The text "a", with U+0085 after the a, is printed as "a\u0085".
use Rattle.std.specs.Fmt.{digit_glyph}
use Rattle.std.specs.Prelude.{ℕ, ◌/◌, ◌%◌, ◌==◌, Bool, false, ◌&&◌, ◌||◌, nat_lt, if◌then◌else◌}
use Rattle.std.specs.Prelude.{List, [], ◌∷◌, ◌++◌, get_or, codes}

-- two bytes that are a control character from U+0080 to U+009F in UTF-8
abbrev pub is_high_control : ℕ → ℕ → Bool
is_high_control first second = first == 194 && nat_lt 127 second && nat_lt second 160

-- a byte is U+007F, or the last byte of a character from U+0080 to U+009F, which has the number of
-- that character
abbrev pub is_escaped : ℕ → ℕ → Bool
is_escaped before b = b == 127 || is_high_control before b

-- a character below 256 as `\u` and four hexadecimal digits
abbrev pub escape_text : ℕ → List ℕ
escape_text c = codes "\\u00" ++ digit_glyph false (c / 16) ∷ digit_glyph false (c % 16) ∷ []

-- the output for a byte between two others: nothing for the first byte of a character from U+0080
-- to U+009F
unfoldable pub plain_byte : ℕ → ℕ → ℕ → List ℕ
plain_byte before b after =
    if is_high_control b after then [] else (if is_escaped before b then escape_text b else b ∷ [])

-- the output for the bytes of a text that stand after another byte, which is 0 if there is none
abbrev pub plain_behind : ℕ → List ℕ → List ℕ
plain_behind before [] = []
plain_behind before (b ∷ bs) = plain_byte before b (get_or bs 0 0) ++ plain_behind b bs

-- a JSON text in which each character from U+007F to U+009F is escaped
unfoldable pub plain_json : List ℕ → List ℕ
plain_json text = plain_behind 0 text
