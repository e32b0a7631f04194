-- Rows that are texts because their view is ASCII, or their buffer a text.
use Rattle.std.proofs.Common.{◌≡◌, ◌+◌, ℕ, Bool, true, false, List, [], take, drop, ap, sym, subst, ◌∙◌, arith}
use Rattle.std.specs.Prelude.{if◌then◌else◌}
use Rattle.std.specs.List.{All}
use Rattle.std.specs.Str.{IsUtf8, IsAscii}
use Rattle.std.proofs.lemmas.Str.{IsUtf8-between, IsUtf8-from_ascii, IsAscii-take, IsAscii-drop}
use Rattle.polars_arrays_views.specs.Texts.{LiesBetween}
use Rattle.polars_arrays_views.specs.Views.{InBuffer, buffer_at, is_short, row_bytes, view_buffer, view_len, view_offset}

-- a short row is in its view
row_in_view : (buffers : List (List ℕ)) (v : List ℕ) → is_short v ≡ true → row_bytes buffers v ≡ take (view_len v) (drop 4 v)
unfolding row_bytes
row_in_view buffers v short =
    ap (λ (b : Bool). if b then take (view_len v) (drop 4 v) else take (view_len v) (drop (view_offset v) (buffer_at buffers (view_buffer v)))) short

-- a long one in its buffer
row_in_buffer : (buffers : List (List ℕ)) (v : List ℕ) → is_short v ≡ false → row_bytes buffers v ≡ take (view_len v) (drop (view_offset v) (buffer_at buffers (view_buffer v)))
unfolding row_bytes
row_in_buffer buffers v long =
    ap (λ (b : Bool). if b then take (view_len v) (drop 4 v) else take (view_len v) (drop (view_offset v) (buffer_at buffers (view_buffer v)))) long

pub ascii_row : (buffers : List (List ℕ)) (v : List ℕ) → is_short v ≡ true → IsAscii v → IsUtf8 (row_bytes buffers v)
ascii_row buffers v short ascii =
    subst IsUtf8 (sym (row_in_view buffers v short)) (IsUtf8-from_ascii (take (view_len v) (drop 4 v)) (IsAscii-take (drop 4 v) (view_len v) (IsAscii-drop v 4 ascii)))

pub row_between : (buffers : List (List ℕ)) (v : List ℕ) → is_short v ≡ false → InBuffer buffers v → All IsUtf8 buffers → LiesBetween buffers v → IsUtf8 (row_bytes buffers v)
row_between buffers v long inside texts lies =
    let bytes = buffer_at buffers (view_buffer v) in
    let text : IsUtf8 bytes = texts (view_buffer v) [] inside.buffer in
    let cut = IsUtf8-between bytes (view_offset v) (view_offset v + view_len v) text (omega arith) lies.begins lies.ends in
    subst IsUtf8 (ap (λ (n : ℕ). take n (drop (view_offset v) bytes)) (omega arith) ∙ sym (row_in_buffer buffers v long)) cut
