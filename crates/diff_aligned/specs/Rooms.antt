-- The number of columns of the terminal that each part of the rows gets.
--
-- Between and before the four columns of a changed row stand 10 columns of marks and gaps. Each of
-- the four gets what it needs if there is room. Otherwise it gets at least its even share of what
-- is left, as far as it needs that.
use Rattle.std.specs.Prelude.{ℕ, ◌+◌, ◌-◌, ◌/◌, List, [], ◌∷◌, max, min}
use Rattle.diff_widths.specs.Cut.{width}
use Rattle.diff_aligned.specs.Rows.{Cells}
use Rattle.diff_aligned.specs.declared.rooms.Rooms.{Rooms}

-- no column
abbrev pub no_rooms : Rooms
no_rooms = record { key = 0; part = 0; left = 0; right = 0; note = 0 }

-- the columns that some rows need together with one row more
abbrev pub with_row : Rooms → Cells → Rooms
with_row s r =
    record {
      key = max s.key (width r.key);
      part = max s.part (width r.part);
      left =
          max s.left (width r.left);
      right = max s.right (width r.right);
      note =
          max s.note (width r.note);
    }

-- the columns that each part of some rows needs
abbrev pub needed : Rooms → List Cells → Rooms
needed s [] = s
needed s (r ∷ rs) = needed (with_row s r) rs

-- the number of columns for one of n parts: it needs `need`, `free` columns are free, and the other
-- parts leave `left` of them
abbrev pub share : ℕ → ℕ → ℕ → ℕ → ℕ
share n free need left = min need (max (free / n) left)

-- the columns that each part of the rows gets, if they need s and `free` columns are free
unfoldable pub rooms_in : ℕ → Rooms → Rooms
rooms_in free s =
    let key = share 4 free s.key (min (free - s.part - s.left - s.right) (free - s.note)) in
    let part = share 3 (free - key) s.part (free - key - s.left - s.right) in
    let left = share 2 (free - key - part) s.left (free - key - part - s.right) in
    record {
      key = key;
      part = part;
      left = left;
      right = free - key - part - left;
      note =
          free + 6 - key;
    }

-- the number of columns that marks and gaps take
abbrev pub gaps : ℕ
gaps = 10
