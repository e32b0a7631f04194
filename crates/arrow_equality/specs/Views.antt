-- Two parts of views that are compared in place.
--
-- Of a part with the view 1 0 0 0 97 and eleven zeros, and another with the view 1 0 0 0 98 and
-- eleven zeros, the rows are `a` and `b`: their bit is 0, and their count of comparisons is 1
-- (`AreComparedViews`). With a 1 among the zeros the first part has no good views (`ArePartViews`).
use Rattle.std.specs.Prelude.{◌≡◌, ◌<◌, ◌≤◌, ◌+◌, ◌*◌, ◌-◌, ◌^◌, ℕ, Bool, true, List, IsTrue}
use Rattle.std.specs.Prelude.{length, min}
use Rattle.std.specs.Str.{IsAscii, IsUtf8, bytes_eq}
use Rattle.polars_arrays_bytes.specs.SizedStrings.{sized_string}
use Rattle.polars_arrays_flat.specs.Validity.{window}
use Rattle.polars_arrays_views.specs.Views.{buffer_at, row_bytes, view_buffer, view_len}
use Rattle.polars_arrays_views.specs.Views.{view_offset}
use Rattle.polars_arrays_words.specs.Bits.{first_of}
use Rattle.polars_compare_leaves.specs.Joining.{Joined}
use Rattle.arrow_parts.specs.Lent.{buffers_in, present_in}
use Rattle.arrow_parts.specs.declared.part.Part.{Part}
use Rattle.arrow_arrays.specs.Good.{HoldRows}
use Rattle.arrow_arrays.specs.Views.{LeadsToRow, view_in}
use Rattle.arrow_equality.specs.declared.compared.Compared.{Compared}
use Rattle.arrow_equality.specs.declared.part_views.Stretch.{Stretch}

-- a view leads to a row, and to a text if `texts` is true
pub record LeadsToString (texts : Bool) (buffers : List (List ℕ)) (v : List ℕ) : Type 0 where
  pub leads : LeadsToRow buffers v
  pub utf8 : IsTrue texts → IsUtf8 (row_bytes buffers v)

-- the bytes of a stretch of a buffer are ASCII
abbrev pub IsAsciiStretch : List (List ℕ) → Stretch → Type 0
IsAsciiStretch buffers s = IsAscii (window s.from (s.to - s.from) (buffer_at buffers s.number))

-- the row of a view lies in a stretch of its buffer
pub record HoldsRow (s : Stretch) (v : List ℕ) : Type 0 where
  pub number : view_buffer v ≡ s.number
  pub begins : s.from ≤ view_offset v
  pub ends : view_offset v + view_len v ≤ s.to

-- sixteen bytes for each of n views, and each view leads to a row
pub record AreRowViews (buffers : List (List ℕ)) (views : List ℕ) (n : ℕ) : Type 0 where
  pub size : length views ≡ 16 * n
  pub rows : (i : ℕ) → i < n → LeadsToRow buffers (sized_string 16 views i)

-- a part has a name in UTF-8, no part inside it and sixteen bytes for each row, and each view leads
-- to a row, also where the row is null; the rows are texts if `texts` is true
pub record ArePartViews (p : Part) (texts : Bool) : Type 0 where
  pub name : IsUtf8 p.name.now
  pub children : p.children ≡ 0
  pub size : length p.u8s.now ≡ 16 * p.rows
  pub rows : (i : ℕ) → i < p.rows → LeadsToString texts (buffers_in p) (view_in p i)

-- for each of n pairs of views, whether the rows that they lead to are equal
abbrev pub same_rows : List (List ℕ) → List ℕ → List (List ℕ) → List ℕ → ℕ → List Bool
same_rows buffers views others more n =
    first_of
    (λ i. bytes_eq (row_bytes buffers (sized_string 16 views i))
    (row_bytes others (sized_string 16 more i)))
    n

-- two parts of equally many views, the bits that say which rows are equal, null to null alone, and
-- one comparison for each row
pub record AreComparedViews (left right : Part) (texts : Bool) (c : Compared) : Type 0 where
  pub left_good : ArePartViews left texts
  pub right_good : ArePartViews right texts
  pub left_held : HoldRows left
  pub right_held : HoldRows right
  pub one_length : left.rows ≡ right.rows
  pub joined : Joined true (present_in left) (present_in right)
      (same_rows (buffers_in left) left.u8s.now (buffers_in right) right.u8s.now left.rows)
      c.bits
  pub count : c.comparisons ≡ min left.rows (2 ^ 64 - 1)
