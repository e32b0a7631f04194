-- Characters as they stand on a terminal. Those that it shows nothing of stand as escapes of JSON.
--
-- a, U+200B, b is a\u200bb, and U+E0041 is \udb40\udc41.
use Rattle.std.specs.Fmt.{digit_glyph}
use Rattle.std.specs.Int.{is_in_range}
use Rattle.std.specs.List.{flat_map}
use Rattle.std.specs.Prelude.{ℕ, ◌+◌, ◌-◌, ◌/◌, ◌%◌, ◌==◌, Bool, false, ◌||◌, nat_lt, if◌then◌else◌}
use Rattle.std.specs.Prelude.{List, [], ◌∷◌, ◌++◌, codes}
use Rattle.bstr.specs.Utf8.{lossy_chars}

-- a control character, or one that takes no column and says how others are shown: soft hyphens,
-- joiners, marks of direction, selectors of forms and tags
unfoldable pub is_hidden : ℕ → Bool
is_hidden c =
    nat_lt c 0x20 || is_in_range 0x7F 0x9F c || c == 0xAD || c == 0x61C
    || is_in_range 0x180B 0x180F c || is_in_range 0x200B 0x200F c || is_in_range 0x2028 0x202E c
    || is_in_range 0x2060 0x206F c || is_in_range 0xFE00 0xFE0F c || c == 0xFEFF
    || is_in_range 0xFFF9 0xFFFB c || is_in_range 0xE0000 0xE0FFF c

-- the lowest 16 bits of a number as `\u` and four hexadecimal digits
abbrev pub unit_escape : ℕ → List ℕ
unit_escape u = codes "\\u"
    ++ digit_glyph false (u / 4096 % 16) ∷ digit_glyph false (u / 256 % 16) ∷ digit_glyph false
    (u / 16 % 16) ∷ digit_glyph false (u % 16) ∷ []

-- a character above U+FFFF as two surrogates
abbrev pub surrogates : ℕ → List ℕ
surrogates c = unit_escape (0xD800 + (c - 0x10000) / 1024) ++ unit_escape (0xDC00 + c % 1024)

-- a character as JSON escapes it
unfoldable pub escape : ℕ → List ℕ
escape c = if nat_lt c 0x10000 then unit_escape c else surrogates c

-- a character as it is, or its escape
unfoldable pub shown_char : ℕ → List ℕ
shown_char c = if is_hidden c then escape c else c ∷ []

-- the characters of some bytes, as they stand on a terminal
unfoldable pub text_of : List ℕ → List ℕ
text_of bytes = flat_map shown_char (lossy_chars bytes)
