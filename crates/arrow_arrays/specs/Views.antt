-- Views of a part, and the byte strings that they lead to (the Arrow layout). The view 1 0 0 0 97
-- and eleven zeros leads to the row `a`; with a 1 among these zeros it leads to none
-- (`LeadsToRow`). Of a part with two rows, the first one present and the second null, this view and
-- sixteen other bytes are views (`AreViews`), and the byte 97 between the places 0, 1, 1 is what is
-- gathered of them (`AreGathered`).
use Rattle.std.specs.Prelude.{◌≡◌, ◌+◌, ◌*◌, ◌^◌, ◌<◌, ℕ, Bool, true, false, List, [], Option, Some}
use Rattle.std.specs.Prelude.{length}
use Rattle.std.specs.Str.{IsUtf8}
use Rattle.polars_arrays_bytes.specs.OffsetStrings.{AreGood, place_at, string_between}
use Rattle.polars_arrays_bytes.specs.SizedStrings.{sized_string}
use Rattle.polars_arrays_flat.specs.Validity.{is_present}
use Rattle.polars_arrays_views.specs.Views.{GoodView, row_bytes, view_buffer, view_len, view_offset}
use Rattle.arrow_parts.specs.ByteBits.{HoldPresence}
use Rattle.arrow_parts.specs.Lent.{buffers_in, present_in}
use Rattle.arrow_parts.specs.declared.part.Part.{Part}

-- the sixteen bytes of view i
abbrev pub view_in : Part → ℕ → List ℕ
view_in p i = sized_string 16 p.u8s.now i

-- row i is present
abbrev pub has_row : Part → ℕ → Bool
has_row p i = is_present (present_in p) i

-- the bytes that view i leads to
abbrev pub viewed_row : Part → ℕ → List ℕ
viewed_row p i = row_bytes (buffers_in p) (view_in p i)

-- the length, the buffer and the offset are not negative: in Arrow they are signed, of 32 bits
pub record NotNegative (v : List ℕ) : Type 0 where
  pub length : view_len v < 2 ^ 31
  pub buffer : view_buffer v < 2 ^ 31
  pub offset : view_offset v < 2 ^ 31

-- a view leads to a row: one of more than 12 bytes lies in its buffer and begins with the prefix, a
-- shorter one has zeros after it
pub record LeadsToRow (buffers : List (List ℕ)) (v : List ℕ) : Type 0 where
  pub good : GoodView buffers v
  pub long : 12 < view_len v → NotNegative v

-- for each present one of the first n rows, its view leads to a row; the other views are arbitrary
abbrev pub AllLead : Part → ℕ → Type 0
AllLead p n = (i : ℕ) → i < n → has_row p i ≡ true → LeadsToRow (buffers_in p) (view_in p i)

-- a validity has a bit for each row, there are sixteen bytes for each row, and views lead to rows
pub record AreViews (p : Part) : Type 0 where
  pub present : HoldPresence p.first_bit p.rows p.present.now
  pub size : length p.u8s.now ≡ 16 * p.rows
  pub rows : AllLead p p.rows

-- and each present row alone is UTF-8
pub record AreTextViews (p : Part) : Type 0 where
  pub views : AreViews p
  pub texts : (i : ℕ) → i < p.rows → has_row p i ≡ true → IsUtf8 (viewed_row p i)

-- bytes, or none
abbrev pub bytes_if : Bool → List ℕ → List ℕ
bytes_if true bytes = bytes
bytes_if false bytes = []

-- between places lie the first n rows of views, with no bytes for a null row
pub record AreGathered (p : Part) (n : ℕ) (all : List (Option ℕ)) (bytes : List ℕ) : Type 0 where
  pub count : length all ≡ n + 1
  pub last : place_at all n ≡ Some (length bytes)
  pub good : AreGood (length bytes) all
  pub each : (i : ℕ) → i < n → string_between all bytes i ≡ bytes_if (has_row p i) (viewed_row p i)
