-- The number of columns of a terminal that a text takes, and texts that are cut in the middle.
--
-- In 9 columns the first words stand as the …ords, and a text that has room stands as it is.
use Rattle.std.specs.Prelude.{ℕ, zero, suc, ◌+◌, ◌-◌, ◌/◌, Bool, ◌&&◌, nat_lt, nat_le, false}
use Rattle.std.specs.Prelude.{if◌then◌else◌, List, [], ◌∷◌, ◌++◌, replicate, unwrap_or}
use Rattle.unicode_width.specs.Width.{char_width}

-- the number of columns that a single character takes: 0 for a combining mark, 2 for a wide one
unfoldable pub char_columns : ℕ → ℕ
char_columns c = unwrap_or (char_width false c) 0

-- the number of columns that a text takes: the sum of those of its characters
abbrev pub width : List ℕ → ℕ
width [] = 0
width (c ∷ cs) = char_columns c + width cs

-- the longest beginning that fits into the room
abbrev pub beginning : ℕ → List ℕ → List ℕ
beginning room [] = []
beginning room (c ∷ cs) =
    if nat_le (char_columns c) room then c ∷ beginning (room - char_columns c) cs else []

-- a text fits into the room, and begins with no combining mark
abbrev pub is_end : ℕ → ℕ → List ℕ → Bool
is_end room c cs = nat_le (char_columns c + width cs) room && nat_lt 0 (char_columns c)

-- the longest end that fits into the room, without combining marks whose letter is not in it
abbrev pub ending : ℕ → List ℕ → List ℕ
ending room [] = []
ending room (c ∷ cs) = if is_end room c cs then c ∷ cs else ending room cs

-- a text that does not fit into the room: its beginning, `…` and its end
abbrev pub shortened : ℕ → List ℕ → List ℕ
shortened zero text = []
shortened (suc room) text = beginning (room - room / 2) text ++ 0x2026 ∷ ending (room / 2) text

-- a text unchanged if it fits into the room, and otherwise cut in the middle
unfoldable pub cut : ℕ → List ℕ → List ℕ
cut room text = if nat_le (width text) room then text else shortened room text

-- n spaces
abbrev pub spaces : ℕ → List ℕ
spaces n = replicate n 32

-- the spaces that fill the room after a text
abbrev pub filler : ℕ → List ℕ → List ℕ
filler room text = spaces (room - width text)

-- a text, cut or filled up with spaces
unfoldable pub padded : ℕ → List ℕ → List ℕ
padded room text = cut room text ++ filler room (cut room text)
