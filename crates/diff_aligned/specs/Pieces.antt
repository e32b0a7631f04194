-- The lines of rows, as pieces in colours.
use Rattle.std.specs.List.{flat_map}
use Rattle.std.specs.Prelude.{ℕ, Bool, List, [], ◌∷◌, ◌++◌, codes, encode_utf8_all}
use Rattle.diff_widths.specs.Cut.{cut, filler, padded}
use Rattle.diff_aligned.specs.Rows.{Cells}
use Rattle.diff_aligned.specs.declared.rooms.Rooms.{Rooms}
use Rattle.diff_aligned.specs.declared.rows.Mark.{Mark}
use Rattle.diff_aligned.specs.declared.rows.Mark.TheVariants.{Changed, Again, Removed, Added}
use Rattle.diff_words.specs.Colors.{painted}
use Rattle.diff_words.specs.declared.colors.Color.{Color}
use Rattle.diff_words.specs.declared.colors.Color.TheVariants.{Red, Green, Yellow}

-- a text in the terminal's own colour, or in another
pub data Piece : Type 0 where
  plain : List ℕ → Piece
  paint : Color → List ℕ → Piece

-- the characters of a piece
abbrev pub piece_text : Piece → List ℕ
piece_text (plain text) = text
piece_text (paint color text) = text

-- a piece as bytes, with colours or without
abbrev pub piece_bytes : Bool → Piece → List ℕ
piece_bytes colored (plain text) = encode_utf8_all text
piece_bytes colored (paint color text) = painted colored color (encode_utf8_all text)

-- the characters of a line
abbrev pub line_text : List Piece → List ℕ
line_text = flat_map piece_text

-- a line as bytes, with its end
abbrev pub line_bytes : Bool → List Piece → List ℕ
line_bytes colored pieces = flat_map (piece_bytes colored) pieces ++ codes "\n"

-- lines as bytes
abbrev pub lines_bytes : Bool → List (List Piece) → List ℕ
lines_bytes colored = flat_map (line_bytes colored)

-- the pieces after the key of a row that changed: its part and the two sides
unfoldable pub change_pieces : Rooms → Cells → List Piece
change_pieces s r =
    plain (filler s.key (cut s.key r.key) ++ codes "  " ++ padded s.part r.part ++ codes "  ") ∷
    paint Red (cut s.left r.left)
    ∷ plain (filler s.left (cut s.left r.left) ++ codes " -> ") ∷ paint Green (cut s.right r.right)
    ∷ []

-- the line of a row that only one file has, in one colour
unfoldable pub lone_pieces : Color → List ℕ → Rooms → Cells → List Piece
lone_pieces color mark s r =
    paint color (mark ++ padded s.key r.key ++ codes "  " ++ cut s.note r.note) ∷ []

-- the line of a row
abbrev pub pieces_by : Mark → Rooms → Cells → List Piece
pieces_by Changed s r = paint Yellow (codes "~ " ++ cut s.key r.key) ∷ change_pieces s r
pieces_by Again s r = plain (codes "  " ++ cut s.key r.key) ∷ change_pieces s r
pieces_by Removed s r = lone_pieces Red (codes "- ") s r
pieces_by Added s r = lone_pieces Green (codes "+ ") s r

-- the line of a row, by its mark
abbrev pub row_pieces : Rooms → Cells → List Piece
row_pieces s r = pieces_by r.mark s r

-- a line in the terminal's own colour
abbrev pub plain_line : List ℕ → List Piece
plain_line text = plain text ∷ []
