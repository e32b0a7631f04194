-- The sixteen bytes of a view, and its row (the Arrow layout). Numbers in a view are little-endian.
use Rattle.std.specs.Prelude.{◌≡◌, ◌≤◌, ◌<◌, ◌+◌, ◌*◌, ◌&&◌, ◌||◌, ℕ, zero, suc, Bool, List, []}
use Rattle.std.specs.Prelude.{◌∷◌, if◌then◌else◌, nat_le, nat_lt, nat_eq, length, take, drop}
use Rattle.std.specs.Prelude.{slice_index, slice_index_or, EachIndex}
use Rattle.std.specs.Str.{bytes_eq}
use Rattle.polars_arrays_flat.specs.ByteOrder.{AreBytes}

-- sixteen bytes
pub record IsView (v : List ℕ) : Type 0 where
  pub size : length v ≡ 16
  pub bytes : (k : ℕ) → slice_index v k < 256

-- the little-endian number of the four bytes from i on
abbrev pub u32_at : ℕ → List ℕ → ℕ
u32_at i v =
    slice_index v i + slice_index v (i + 1) * 256 + slice_index v (i + 2) * 65536 + slice_index v
    (i + 3) * 16777216

-- the length of the row
unfoldable pub view_len : List ℕ → ℕ
view_len v = u32_at 0 v

-- true if the row lies in the view
abbrev pub is_short : List ℕ → Bool
is_short v = nat_le (view_len v) 12

-- the index of the buffer that holds a row of more than 12 bytes
unfoldable pub view_buffer : List ℕ → ℕ
view_buffer v = u32_at 8 v

-- the offset in its buffer at which a row of more than 12 bytes begins
unfoldable pub view_offset : List ℕ → ℕ
view_offset v = u32_at 12 v

-- the row's first four bytes, padded with zeros
abbrev pub view_prefix : List ℕ → List ℕ
view_prefix v = take 4 (drop 4 v)

-- the bytes of buffer i
abbrev pub buffer_at : List (List ℕ) → ℕ → List ℕ
buffer_at buffers i = slice_index_or buffers i []

-- the row of a view: it lies in the view up to 12 bytes, and in a buffer above that
unfoldable pub row_bytes : List (List ℕ) → List ℕ → List ℕ
row_bytes buffers v =
    if nat_le (view_len v) 12 then take (view_len v) (drop 4 v) else take (view_len v)
    (drop (view_offset v) (buffer_at buffers (view_buffer v)))

-- each byte is zero
abbrev pub AllZero : List ℕ → Type 0
AllZero xs = EachIndex xs (λ k. slice_index xs k ≡ 0)

-- the row lies in an existing buffer, and the prefix is its first four bytes
pub record InBuffer (buffers : List (List ℕ)) (v : List ℕ) : Type 0 where
  pub buffer : view_buffer v < length buffers
  pub fits : view_offset v + view_len v ≤ length (buffer_at buffers (view_buffer v))
  pub prefix : view_prefix v ≡ take 4 (drop (view_offset v) (buffer_at buffers (view_buffer v)))

-- a view of a row: a short row is padded with zeros, a long one lies in a buffer
pub record GoodView (buffers : List (List ℕ)) (v : List ℕ) : Type 0 where
  pub view : IsView v
  pub short : view_len v ≤ 12 → AllZero (drop (4 + view_len v) v)
  pub long : 12 < view_len v → InBuffer buffers v

-- the first n bytes, padded with zeros
abbrev pub padded : ℕ → List ℕ → List ℕ
padded zero xs = []
padded (suc n) [] = 0 ∷ padded n []
padded (suc n) (x ∷ xs) = x ∷ padded n xs

-- the view that holds a row of at most 12 bytes
abbrev pub short_view : List ℕ → List ℕ
short_view xs = length xs ∷ 0 ∷ 0 ∷ 0 ∷ padded 12 xs

-- a view with the prefix of a byte string, and with all of it if it has at most 12 bytes
pub record HoldsScalar (v xs : List ℕ) : Type 0 where
  pub bytes : AreBytes xs
  pub prefix : view_prefix v ≡ padded 4 xs
  pub good : length xs ≤ 12 → GoodView [] v
  pub row : length xs ≤ 12 → row_bytes [] v ≡ xs

-- true if equality of rows reads buffers (our own choice): equal prefixes, equal lengths above 12
abbrev pub followed_eq : List ℕ → List ℕ → Bool
followed_eq xs ys =
    nat_eq (length xs) (length ys) && nat_lt 12 (length xs) && bytes_eq (take 4 xs) (take 4 ys)

-- true if order of rows reads buffers (our own choice): equal prefixes, and a row longer than 12
abbrev pub followed_lt : List ℕ → List ℕ → Bool
followed_lt xs ys =
    bytes_eq (padded 4 xs) (padded 4 ys) && (nat_lt 12 (length xs) || nat_lt 12 (length ys))
