-- The lines of a text.
--
-- The bytes "ab", 10, 10, "c" are the lines "ab", the empty one, and "c".
use Rattle.std.specs.Prelude.{ℕ, ◌==◌, if◌then◌else◌, List, [], ◌∷◌}

-- lines with one more byte before the first line, or the byte as the only line if there is none
abbrev pub before_first : ℕ → List (List ℕ) → List (List ℕ)
before_first b [] = (b ∷ []) ∷ []
before_first b (line ∷ lines) = (b ∷ line) ∷ lines

-- the lines of a text, each without its line feed; the text after the last line feed is a line if
-- it is not empty
unfoldable pub lines_of : List ℕ → List (List ℕ)
lines_of [] = []
lines_of (b ∷ bs) = if b == 10 then [] ∷ lines_of bs else before_first b (lines_of bs)
