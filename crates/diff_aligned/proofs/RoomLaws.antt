-- Laws: the lines of rows have room.
use Rattle.std.proofs.Common.{◌≡◌, ◌≤◌, ◌+◌, ◌-◌, ◌/◌, ℕ, List, [], ◌∷◌, ◌++◌, max, min, arith, ap, subst, refl}
use Rattle.std.proofs.lemmas.List.{append-nil}
use Rattle.std.proofs.lemmas.List.Elements.{All-cons, All-nil}
use Rattle.std.specs.Prelude.{All, codes, map}
use Rattle.diff_aligned.specs.Aligned.{rooms_for, row_lines}
use Rattle.diff_widths.specs.Cut.{char_columns, cut, filler, padded, width}
use Rattle.diff_aligned.specs.Pieces.{change_pieces, line_text, lone_pieces, pieces_by, row_pieces}
use Rattle.diff_aligned.specs.Rooms.{needed, no_rooms, rooms_in, share}
use Rattle.diff_aligned.specs.Rows.{Cells}
use Rattle.diff_aligned.specs.declared.rooms.Rooms.{Rooms}
use Rattle.diff_aligned.specs.declared.rows.Mark.{Mark}
use Rattle.diff_aligned.specs.declared.rows.Mark.TheVariants.{Changed, Again, Removed, Added}
use Rattle.diff_words.specs.declared.colors.Color.{Color}
use Rattle.diff_words.specs.declared.colors.Color.TheVariants.{Red, Green}
use Rattle.unicode_width.proofs.Computing.{unicode_width}
use Rattle.diff_aligned.proofs.WidthLaws.{cut-le, width-append, width-padded, width-spaces}

-- rooms that have place in so many columns, the note in six more without its key's
pub record Fit (free : ℕ) (s : Rooms) : Type 0 where
  pub sides : s.key + s.part + s.left + s.right ≤ free
  pub noted : s.key + s.note ≤ free + 6

share-le : (part free need left : ℕ) → part ≤ free → left ≤ free → min need (max part left) ≤ free
share-le part free need left a b = grind arith

pub rooms-fit : (free : ℕ) (s : Rooms) → Fit free (rooms_in free s)
unfolding rooms_in
rooms-fit free s =
    let key = share 4 free s.key (min (free - s.part - s.left - s.right) (free - s.note)) in
    let part = share 3 (free - key) s.part (free - key - s.left - s.right) in
    let left = share 2 (free - key - part) s.left (free - key - part - s.right) in
    let k : key ≤ free = share-le (free / 4) free s.key (min (free - s.part - s.left - s.right) (free - s.note)) (omega arith) (grind arith) in
    let p : part ≤ free - key = share-le ((free - key) / 3) (free - key) s.part (free - key - s.left - s.right) (omega arith) (omega arith) in
    let l : left ≤ free - key - part = share-le ((free - key - part) / 2) (free - key - part) s.left (free - key - part - s.right) (omega arith) (omega arith) in
    record { sides = omega (arith, k, p, l); noted = omega (arith, k) }

-- marks and gaps
two : width (codes "  ") ≡ 2
unfolding char_columns unicode_width
two = refl

tilde : width (codes "~ ") ≡ 2
unfolding char_columns unicode_width
tilde = refl

minus : width (codes "- ") ≡ 2
unfolding char_columns unicode_width
minus = refl

plus : width (codes "+ ") ≡ 2
unfolding char_columns unicode_width
plus = refl

arrow : width (codes " -> ") ≡ 4
unfolding char_columns unicode_width
arrow = refl

-- a cut text with what fills its room
filled-width : (room : ℕ) (cs : List ℕ) → width (cut room cs) + width (filler room (cut room cs)) ≡ room
filled-width room cs = omega (arith, width-spaces (room - width (cut room cs)), cut-le room cs)

middle-width : (s : Rooms) (r : Cells) → width (cut s.key r.key) + width (filler s.key (cut s.key r.key) ++ codes "  " ++ padded s.part r.part ++ codes "  ") ≡ s.key + s.part + 4
middle-width s r =
    let fill = filler s.key (cut s.key r.key) in
    let part = padded s.part r.part in
    omega (arith, width-append (fill ++ codes "  " ++ part) (codes "  "), width-append (fill ++ codes "  ") part, width-append fill (codes "  "), two, filled-width s.key r.key, width-padded s.part r.part)

five : (a b c d e : List ℕ) → width (a ++ (b ++ (c ++ (d ++ (e ++ []))))) ≡ width a + width b + width c + width d + width e
five a b c d e =
    let none = ap width (append-nil e) in
    omega (arith, width-append a (b ++ (c ++ (d ++ (e ++ [])))), width-append b (c ++ (d ++ (e ++ []))), width-append c (d ++ (e ++ [])), width-append d (e ++ []), none)

-- the line of a part that differs
change-room : (free : ℕ) (mark : List ℕ) (s : Rooms) (r : Cells) → width mark ≡ 2 → Fit free s → width ((mark ++ cut s.key r.key) ++ line_text (change_pieces s r)) ≤ free + 10
unfolding change_pieces
change-room free mark s r m fit =
    let middle = filler s.key (cut s.key r.key) ++ codes "  " ++ padded s.part r.part ++ codes "  " in
    let left = cut s.left r.left in
    let right = cut s.right r.right in
    let total = five (mark ++ cut s.key r.key) middle left (filler s.left left ++ codes " -> ") right in
    omega (arith, total, width-append mark (cut s.key r.key), m, middle-width s r, width-append (filler s.left left) (codes " -> "), arrow, filled-width s.left r.left, cut-le s.right r.right, fit.sides)

-- the line of a row that one file has alone
lone-room : (free : ℕ) (color : Color) (mark : List ℕ) (s : Rooms) (r : Cells) → width mark ≡ 2 → Fit free s → width (line_text (lone_pieces color mark s r)) ≤ free + 10
unfolding lone_pieces
lone-room free color mark s r m fit =
    let key = padded s.key r.key in
    let note = cut s.note r.note in
    let whole = mark ++ key ++ codes "  " ++ note in
    let all : width (line_text (lone_pieces color mark s r)) ≡ width whole = ap width (append-nil whole) in
    omega (arith, all, width-append (mark ++ key ++ codes "  ") note, width-append (mark ++ key) (codes "  "), width-append mark key, m, two, width-padded s.key r.key, cut-le s.note r.note, fit.noted)

pub row-room : (free : ℕ) (mark : Mark) (s : Rooms) (r : Cells) → Fit free s → width (line_text (pieces_by mark s r)) ≤ free + 10
row-room free Changed s r fit = change-room free (codes "~ ") s r tilde fit
row-room free Again s r fit = change-room free (codes "  ") s r two fit
row-room free Removed s r fit = lone-room free Red (codes "- ") s r minus fit
row-room free Added s r fit = lone-room free Green (codes "+ ") s r plus fit

pub rows-room : (free : ℕ) (s : Rooms) (rows : List Cells) → Fit free s → All (λ line. width (line_text line) ≤ free + 10) (map (row_pieces s) rows)
rows-room free s [] fit = All-nil (λ line. width (line_text line) ≤ free + 10)
rows-room free s (r ∷ rs) fit = All-cons (λ line. width (line_text line) ≤ free + 10) (row_pieces s r) (map (row_pieces s) rs) (row-room free r.mark s r fit) (rows-room free s rs fit)

pub rows-in-room : (n : ℕ) (rows : List Cells) → 40 ≤ n → All (λ line. width (line_text line) ≤ n) (row_lines n rows)
unfolding row_lines
rows-in-room n rows h =
    let same : n - 10 + 10 ≡ n = omega (arith, h) in
    subst (λ m. All (λ line. width (line_text line) ≤ m) (map (row_pieces (rooms_for n rows)) rows)) same (rows-room (n - 10) (rooms_for n rows) rows (rooms-fit (n - 10) (needed no_rooms rows)))
