-- Words: byte strings that need no quotes.
--
-- The text of 4411 is 4411, that of "a b" is "a b" with its quotes, and that of no byte is "".
use Rattle.std.specs.List.{list_all}
use Rattle.std.specs.Prelude.{ℕ, ◌==◌, Bool, not, ◌&&◌, nat_lt, if◌then◌else◌, List, length}
use Rattle.diff_words.specs.Quoted.{quoted}

-- a byte above a space that is no quote, comma, equals sign, backslash, 127 or 194, with which
-- U+0080 to U+00BF begin
abbrev pub is_word_byte : ℕ → Bool
is_word_byte b = nat_lt 32 b && not (b == 34) && not (b == 44) && not (b == 61) && not (b == 92)
    && not (b == 127) && not (b == 194)

-- bytes that may all stand in a word
abbrev pub is_word : List ℕ → Bool
is_word bytes = not (length bytes == 0) && list_all is_word_byte bytes

-- a byte string: a word unchanged, and any other between quotes
unfoldable pub word_text : List ℕ → List ℕ
word_text bytes = if is_word bytes then bytes else quoted bytes
