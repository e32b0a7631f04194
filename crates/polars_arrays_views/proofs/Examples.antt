-- Worked examples of the definitions: the check computes both sides of each.
use Rattle.std.specs.Prelude.{◌≡◌, ◌<◌, ◌+◌, ℕ, zero, suc, Bool, true, false, ◌&&◌, nat_lt, List, [], ◌∷◌, Some, None, slice_index, slice_index_or, refl}
use Rattle.std.proofs.Common.{ap, arith}
use Rattle.std.proofs.lemmas.Bool.{and_parts}
use Rattle.std.proofs.lemmas.Bool.Decides.{Decides-ltb}
use Rattle.std.proofs.lemmas.List.Elements.{All-from_get_or}
use Rattle.std.proofs.lemmas.Str.{IsUtf8-from_ascii}
use Rattle.std.specs.Str.{IsUtf8}
use Rattle.polars_arrays_bits.specs.declared.error.ArrayError.TheVariants.{Length, View}
use Rattle.polars_arrays_flat.specs.Row.{Null, Bytes}
use Rattle.polars_arrays_views.specs.Faults.{IsFirstBadView, IsFirstFault}
use Rattle.polars_arrays_views.specs.Parts.{ViewParts, contents, strings_of, view_strings, view_rows, GoodParts}
use Rattle.polars_arrays_views.specs.Texts.{AllText, IsFirstNotText, IsFirstTextFault, LiesBetween}
use Rattle.polars_arrays_views.specs.Views.{IsView, GoodView, is_short, InBuffer, AllZero, u32_at, view_len, view_buffer, view_offset, view_prefix, buffer_at, row_bytes, padded, short_view, followed_eq, followed_lt}

-- whether each number is below m
abbrev all_below : ℕ → List ℕ → Bool
all_below m [] = true
all_below m (x ∷ xs) = nat_lt x m && all_below m xs

tested : (m : ℕ) (xs : List ℕ) → 0 < m → all_below m xs ≡ true → (k : ℕ) → slice_index xs k < m
tested m [] some below k = some
tested m (x ∷ xs) some below zero =
    (Decides-ltb x m).0 (and_parts (nat_lt x m) (all_below m xs) below).0
tested m (x ∷ xs) some below (suc k) =
    tested m xs some (and_parts (nat_lt x m) (all_below m xs) below).1 k

-- ---- rows: `abcdefghijkl`, `abcdefghijklm`, `abcxefghijklm`, `abcdzzzzzzzzz` and `abcdy`
abbrev twelve : List ℕ
twelve =
    97 ∷ 98 ∷ 99 ∷ 100 ∷ 101 ∷ 102 ∷ 103 ∷ 104 ∷ 105 ∷ 106 ∷ 107 ∷ 108 ∷ []

abbrev thirteen : List ℕ
thirteen =
    97 ∷ 98 ∷ 99 ∷ 100 ∷ 101 ∷ 102 ∷ 103 ∷ 104 ∷ 105 ∷ 106 ∷ 107 ∷ 108 ∷ 109 ∷ []

abbrev other_thirteen : List ℕ
other_thirteen =
    97 ∷ 98 ∷ 99 ∷ 120 ∷ 101 ∷ 102 ∷ 103 ∷ 104 ∷ 105 ∷ 106 ∷ 107 ∷ 108 ∷ 109 ∷ []

abbrev zeds : List ℕ
zeds =
    97 ∷ 98 ∷ 99 ∷ 100 ∷ 122 ∷ 122 ∷ 122 ∷ 122 ∷ 122 ∷ 122 ∷ 122 ∷ 122 ∷ 122 ∷ []

abbrev abcdy : List ℕ
abcdy = 97 ∷ 98 ∷ 99 ∷ 100 ∷ 121 ∷ []

-- ---- views of the empty row, of `a`, of `a` and a zero byte, of `abcdefghijkl`, and of `abcdefghijklm` in buffer 0 from byte 0 on
abbrev empty_view : List ℕ
empty_view = 0 ∷ 0 ∷ 0 ∷ 0 ∷ 0 ∷ 0 ∷ 0 ∷ 0 ∷ 0 ∷ 0 ∷ 0 ∷ 0 ∷ 0 ∷ 0 ∷ 0 ∷ 0 ∷ []

abbrev a_view : List ℕ
a_view = 1 ∷ 0 ∷ 0 ∷ 0 ∷ 97 ∷ 0 ∷ 0 ∷ 0 ∷ 0 ∷ 0 ∷ 0 ∷ 0 ∷ 0 ∷ 0 ∷ 0 ∷ 0 ∷ []

abbrev a_zero_view : List ℕ
a_zero_view = 2 ∷ 0 ∷ 0 ∷ 0 ∷ 97 ∷ 0 ∷ 0 ∷ 0 ∷ 0 ∷ 0 ∷ 0 ∷ 0 ∷ 0 ∷ 0 ∷ 0 ∷ 0 ∷ []

abbrev twelve_view : List ℕ
twelve_view =
    12 ∷ 0 ∷ 0 ∷ 0 ∷ 97 ∷ 98 ∷ 99 ∷ 100 ∷ 101 ∷ 102 ∷ 103 ∷ 104 ∷ 105 ∷ 106 ∷ 107 ∷ 108 ∷ []

abbrev thirteen_view : List ℕ
thirteen_view =
    13 ∷ 0 ∷ 0 ∷ 0 ∷ 97 ∷ 98 ∷ 99 ∷ 100 ∷ 0 ∷ 0 ∷ 0 ∷ 0 ∷ 0 ∷ 0 ∷ 0 ∷ 0 ∷ []

-- ---- views that stand for no row: one of length 1 whose last byte is 1, one that begins past its buffer, and one with the prefix of another row
abbrev unpadded_view : List ℕ
unpadded_view = 1 ∷ 0 ∷ 0 ∷ 0 ∷ 97 ∷ 0 ∷ 0 ∷ 0 ∷ 0 ∷ 0 ∷ 0 ∷ 0 ∷ 0 ∷ 0 ∷ 0 ∷ 1 ∷ []

abbrev far_view : List ℕ
far_view =
    13 ∷ 0 ∷ 0 ∷ 0 ∷ 97 ∷ 98 ∷ 99 ∷ 100 ∷ 0 ∷ 0 ∷ 0 ∷ 0 ∷ 255 ∷ 255 ∷ 255 ∷ 255 ∷ []

abbrev other_prefix_view : List ℕ
other_prefix_view =
    13 ∷ 0 ∷ 0 ∷ 0 ∷ 97 ∷ 98 ∷ 99 ∷ 120 ∷ 0 ∷ 0 ∷ 0 ∷ 0 ∷ 0 ∷ 0 ∷ 0 ∷ 0 ∷ []

-- ---- what a view says
u32_at-little_endian : u32_at 1 (9 ∷ 13 ∷ 1 ∷ 0 ∷ 2 ∷ []) ≡ 13 + 256 + 33554432
u32_at-little_endian = refl

view_len-thirteen : view_len thirteen_view ≡ 13
unfolding view_len
view_len-thirteen = refl

is_short-thirteen : is_short thirteen_view ≡ false
unfolding view_len
is_short-thirteen = refl

is_short-one : is_short (short_view (97 ∷ [])) ≡ true
unfolding view_len
is_short-one = refl

view_buffer-third : view_buffer (13 ∷ 0 ∷ 0 ∷ 0 ∷ 97 ∷ 98 ∷ 99 ∷ 100 ∷ 2 ∷ 0 ∷ 0 ∷ 0 ∷ 7 ∷ 1 ∷ 0 ∷ 0 ∷ []) ≡ 2
unfolding view_buffer
view_buffer-third = refl

view_offset-far : view_offset far_view ≡ 4294967295
unfolding view_offset
view_offset-far = refl

view_prefix-thirteen : view_prefix thirteen_view ≡ 97 ∷ 98 ∷ 99 ∷ 100 ∷ []
view_prefix-thirteen = refl

buffer_at-first : buffer_at (thirteen ∷ []) 0 ≡ thirteen
buffer_at-first = refl

row_bytes-empty : row_bytes [] empty_view ≡ []
unfolding row_bytes view_len
row_bytes-empty = refl

row_bytes-a : row_bytes [] a_view ≡ 97 ∷ []
unfolding row_bytes view_len
row_bytes-a = refl

-- a zero byte at the end is part of the row
row_bytes-a_zero : row_bytes [] a_zero_view ≡ 97 ∷ 0 ∷ []
unfolding row_bytes view_len
row_bytes-a_zero = refl

row_bytes-twelve : row_bytes [] twelve_view ≡ twelve
unfolding row_bytes view_len
row_bytes-twelve = refl

row_bytes-thirteen : row_bytes (thirteen ∷ []) thirteen_view ≡ thirteen
unfolding row_bytes view_len view_buffer view_offset
row_bytes-thirteen = refl

padded-short : padded 4 (97 ∷ 98 ∷ []) ≡ 97 ∷ 98 ∷ 0 ∷ 0 ∷ []
padded-short = refl

padded-long : padded 4 abcdy ≡ 97 ∷ 98 ∷ 99 ∷ 100 ∷ []
padded-long = refl

short_view-a : short_view (97 ∷ []) ≡ a_view
short_view-a = refl

short_view-twelve : short_view twelve ≡ twelve_view
short_view-twelve = refl

-- ---- good views
AllZero-behind_a : AllZero (0 ∷ 0 ∷ [])
AllZero-behind_a zero within = refl
AllZero-behind_a (suc zero) within = refl
AllZero-behind_a (suc (suc k)) within = absurd (omega arith)

IsView-thirteen : IsView thirteen_view
IsView-thirteen = record { size = refl; bytes = tested 256 thirteen_view (omega arith) refl }

GoodView-thirteen : GoodView (thirteen ∷ []) thirteen_view
unfolding view_len view_buffer view_offset
GoodView-thirteen = record {
  view = IsView-thirteen;
  short = λ short. absurd (omega arith);
  long = λ long. record { buffer = omega arith; fits = omega arith; prefix = refl };
}

-- the last byte is not zero
GoodView-unpadded : GoodView [] unpadded_view → ⊥
unfolding view_len
GoodView-unpadded good =
    let last = good.short (omega arith) 10 (omega arith) in
    absurd (omega (arith, last))

-- the row ends past the end of the buffer
InBuffer-far : InBuffer (thirteen ∷ []) far_view → ⊥
unfolding view_len view_buffer view_offset
InBuffer-far inside = let fits = inside.fits in absurd (omega arith)

InBuffer-other_prefix : InBuffer (thirteen ∷ []) other_prefix_view → ⊥
unfolding view_len view_buffer view_offset
InBuffer-other_prefix inside =
    let fourth = ap (λ (bytes : List ℕ). slice_index bytes 3) inside.prefix in
    absurd (omega (arith, fourth))

GoodView-far : GoodView (thirteen ∷ []) far_view → ⊥
unfolding view_len
GoodView-far good = InBuffer-far (good.long (omega arith))

GoodView-other_prefix : GoodView (thirteen ∷ []) other_prefix_view → ⊥
unfolding view_len
GoodView-other_prefix good = InBuffer-other_prefix (good.long (omega arith))

-- ---- rows that are looked up in buffers
followed_eq-itself : followed_eq thirteen thirteen ≡ true
followed_eq-itself = refl

followed_eq-shorter : followed_eq thirteen twelve ≡ false
followed_eq-shorter = refl

followed_eq-other : followed_eq thirteen other_thirteen ≡ false
followed_eq-other = refl

followed_eq-short : followed_eq zeds abcdy ≡ false
followed_eq-short = refl

followed_eq-empty : followed_eq [] (padded 13 []) ≡ false
followed_eq-empty = refl

followed_lt-itself : followed_lt thirteen thirteen ≡ true
followed_lt-itself = refl

followed_lt-shorter : followed_lt thirteen twelve ≡ true
followed_lt-shorter = refl

followed_lt-other : followed_lt thirteen other_thirteen ≡ false
followed_lt-other = refl

followed_lt-short : followed_lt zeds abcdy ≡ true
followed_lt-short = refl

followed_lt-empty : followed_lt [] (padded 13 []) ≡ true
followed_lt-empty = refl

-- ---- arrays: `a`, and `abcdefghijklm`, which is masked
abbrev two_rows : ViewParts
two_rows = record {
  views = a_view ∷ thirteen_view ∷ [];
  buffers = thirteen ∷ [];
  validity = Some (true ∷ false ∷ []);
}

contents-two : contents (record { items = 7 ∷ []; owned = true } ∷ record { items = []; owned = false } ∷ []) ≡ (7 ∷ []) ∷ [] ∷ []
contents-two = refl

strings_of-two : strings_of (thirteen ∷ []) (a_view ∷ thirteen_view ∷ []) ≡ (97 ∷ []) ∷ thirteen ∷ []
unfolding row_bytes view_len view_buffer view_offset
strings_of-two = refl

view_strings-two : view_strings two_rows ≡ (97 ∷ []) ∷ thirteen ∷ []
unfolding row_bytes view_len view_buffer view_offset
view_strings-two = refl

view_rows-two : view_rows two_rows ≡ Bytes (97 ∷ []) ∷ Null ∷ []
unfolding row_bytes view_len view_buffer view_offset
view_rows-two = refl

GoodParts-empty : GoodParts (record { views = []; buffers = []; validity = None })
GoodParts-empty = (tt, λ k d within. absurd (omega arith))

GoodParts-thirteen : GoodParts (record { views = thirteen_view ∷ []; buffers = thirteen ∷ []; validity = Some (true ∷ []) })
GoodParts-thirteen =
    (refl, All-from_get_or (GoodView (thirteen ∷ [])) (thirteen_view ∷ []) [] each)
  where
    each : (k : ℕ) → k < 1 → GoodView (thirteen ∷ []) (slice_index_or (thirteen_view ∷ []) k [])
    each zero within = GoodView-thirteen
    each (suc k) within = absurd (omega arith)

-- ---- faults
IsFirstFault-two_bits : IsFirstFault (record { views = a_view ∷ []; buffers = []; validity = Some (true ∷ true ∷ []) }) Length
IsFirstFault-two_bits = λ one. absurd (omega (arith, one))

IsFirstBadView-unpadded : IsFirstBadView [] (unpadded_view ∷ []) 0
IsFirstBadView-unpadded =
    (omega arith, GoodView-unpadded, λ k before. absurd (omega arith))

-- under a null too
IsFirstFault-other_prefix : IsFirstFault (record { views = other_prefix_view ∷ []; buffers = thirteen ∷ []; validity = Some (false ∷ []) }) (View 0)
IsFirstFault-other_prefix =
    (refl, (omega arith, GoodView-other_prefix, λ k before. absurd (omega arith)))

-- ---- texts
AllText-two : AllText two_rows
unfolding row_bytes view_len view_buffer view_offset
AllText-two = All-from_get_or IsUtf8 (view_strings two_rows) [] row_is_text
  where
    row_is_text : (k : ℕ) → k < 2 → IsUtf8 (slice_index_or (view_strings two_rows) k [])
    row_is_text zero within = IsUtf8-from_ascii (97 ∷ []) (tested 128 (97 ∷ []) (omega arith) refl)
    row_is_text (suc zero) within = IsUtf8-from_ascii thirteen (tested 128 thirteen (omega arith) refl)
    row_is_text (suc (suc k)) within = absurd (omega arith)

-- all of a buffer of thirteen letters
LiesBetween-thirteen : LiesBetween (thirteen ∷ []) thirteen_view
unfolding view_len view_buffer view_offset
LiesBetween-thirteen = record {
  begins = (omega arith, λ below wide. absurd (omega arith));
  ends = (omega arith, λ below. absurd (omega arith));
}

-- `a`, and the byte 255, which stands in no UTF-8
IsFirstNotText-byte_255 : (IsUtf8 (255 ∷ []) → ⊥) → IsFirstNotText ((97 ∷ []) ∷ (255 ∷ []) ∷ []) 1
IsFirstNotText-byte_255 not_text = (omega arith, not_text, λ k before. first k before)
  where
    first : (k : ℕ) → k < 1 → IsUtf8 (slice_index_or ((97 ∷ []) ∷ (255 ∷ []) ∷ []) k [])
    first zero before = IsUtf8-from_ascii (97 ∷ []) (tested 128 (97 ∷ []) (omega arith) refl)
    first (suc k) before = absurd (omega arith)

-- a view that is not good is said before a row that is no text
IsFirstTextFault-unpadded : IsFirstTextFault (record { views = unpadded_view ∷ []; buffers = []; validity = None }) (View 0)
IsFirstTextFault-unpadded =
    (tt, (omega arith, GoodView-unpadded, λ k before. absurd (omega arith)))
