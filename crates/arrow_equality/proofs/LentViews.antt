-- Views in a part's own memory.
use Rattle.std.proofs.Common.{◌≡◌, ◌+◌, ◌-◌, ◌*◌, ◌/◌, ◌^◌, ◌≤◌, ◌<◌, ℕ, zero, suc, inl, inr, List, length, take, drop, refl, sym, ap, subst, ◌∙◌, arith}
use Rattle.std.specs.Int.{w32, w128, byte_worth, from_be_bytes, from_le_bytes, sum_through, to_be_bytes}
use Rattle.std.specs.Prelude.{Bool, slice_index}
use Rattle.std.specs.Str.{IsAscii, IsUtf8, bytes_eq}
use Rattle.std.proofs.Math.Nat.{div-lt_iff_lt-mul, pow-le-pow_right}
use Rattle.std.proofs.lemmas.Bool.{cases_lt}
use Rattle.std.proofs.lemmas.Str.{IsAscii-drop, IsAscii-take, IsUtf8-from_ascii}
use Rattle.polars_arrays_bytes.proofs.Windows.{window_within}
use Rattle.polars_arrays_flat.specs.Validity.{window}
use Rattle.std.proofs.lemmas.List.{get_or-drop, length-drop, length-map, length-take}
use Rattle.std.proofs.lemmas.Nat.{be_bytes_4, mul-le, pow-add, pow_pos}
use Rattle.std.proofs.lemmas.Grind.{pow_more}
use Rattle.polars_arrays_bytes.specs.SizedStrings.{sized_string}
use Rattle.polars_arrays_flat.specs.ByteOrder.{AreBytes}
use Rattle.polars_arrays_flat.specs.ByteOrderLaws.{bytes_drop, bytes_take}
use Rattle.polars_arrays_views.specs.Views.{AllZero, InBuffer, IsView, buffer_at, row_bytes, view_buffer, view_len, view_offset, view_prefix}
use Rattle.polars_arrays_views.proofs.GoodViews.{long_row}
use Rattle.polars_arrays_words.proofs.Firsts.{length-first}
use Rattle.arrow_parts.specs.Lent.{buffers_in, lent_buffers}
use Rattle.arrow_parts.specs.declared.part.Bytes.{Bytes}
use Rattle.arrow_parts.specs.declared.part.Part.{Part}
use Rattle.arrow_equality.specs.Views.{ArePartViews, AreRowViews, HoldsRow, IsAsciiStretch, same_rows}
use Rattle.arrow_equality.specs.declared.part_views.Stretch.{Stretch}

-- a term of a sum
term_le : (f : ℕ → ℕ) (n i : ℕ) → i ≤ n → f i ≤ sum_through f n
term_le f zero zero low = omega arith
term_le f zero (suc i) low = absurd (omega arith)
term_le f (suc n) i low = elim (cases_lt i (suc n)) [
  | inl below ↦ omega (arith, term_le f n i (omega arith))
  | inr above ↦
      let last : suc n ≡ i = omega arith in
      subst (λ k. f k ≤ sum_through f (suc n)) last (omega arith)
]

worth_le : (i x : ℕ) → 1 ≤ x → 256 ^ i ≤ byte_worth i x
worth_le zero x some = some
worth_le (suc i) x some = let more = mul-le 1 (256 ^ suc i) x (256 ^ suc i) some (omega arith) in omega (arith, more)

-- bytes past those of a number are zero
zero_past : (v : List ℕ) (k i : ℕ) → from_le_bytes w128 v < 256 ^ k → k ≤ i → i ≤ 15 → slice_index v i ≡ 0
zero_past v k i small past low = elim (cases_lt 0 (slice_index v i)) [
  | inl some ↦
      let term = term_le (λ j. byte_worth j (slice_index v j)) 15 i low in
      let worth = worth_le i (slice_index v i) (omega arith) in
      let power : 256 ^ k ≤ 256 ^ i = pow-le-pow_right (omega arith) past in
      absurd (omega (arith, small, term, worth, power))
  | inr none ↦ omega arith
]

bytes_power : (n : ℕ) → 256 ^ n ≡ 2 ^ (8 * n)
bytes_power zero = refl
bytes_power (suc n) =
    let more : 2 ^ (8 * suc n) ≡ 2 ^ (8 * n) * 2 ^ 8 = ap (λ k. 2 ^ k) (omega arith) ∙ pow-add 2 (8 * n) 8 in
    let one : 256 ^ suc n ≡ 256 ^ n * 256 = ap (λ k. 256 ^ k) (omega arith) ∙ pow_more 256 n in
    omega (arith, one, more, bytes_power n)

-- the same, of a number that is shifted
pub zeros_behind : (v : List ℕ) (len number : ℕ) → length v ≡ 16 → number ≡ from_le_bytes w128 v → number / 2 ^ 32 / 2 ^ (8 * len) ≡ 0 → AllZero (drop (4 + len) v)
zeros_behind v len number size is none k low =
    let row : number / 2 ^ 32 < 1 * 2 ^ (8 * len) = (div-lt_iff_lt-mul {k = 2 ^ (8 * len)} {x = number / 2 ^ 32} {y = 1} (pow_pos (8 * len))).0 (omega (arith, none)) in
    let all : number < 1 * 2 ^ (8 * len) * 2 ^ 32 = (div-lt_iff_lt-mul {k = 2 ^ 32} {x = number} {y = 1 * 2 ^ (8 * len)} (omega arith)).0 row in
    let shift : 2 ^ (8 * (4 + len)) ≡ 2 ^ (8 * len) * 2 ^ 32 = ap (λ k. 2 ^ k) (omega arith) ∙ pow-add 2 (8 * len) 32 in
    let power : 256 ^ (4 + len) ≡ 2 ^ (8 * len) * 2 ^ 32 = bytes_power (4 + len) ∙ shift in
    get_or-drop (4 + len) v k 0 ∙ zero_past v (4 + len) (4 + len + k) (omega (arith, all, power, is)) (omega arith) (omega (arith, low, size, length-drop (4 + len) v))

-- ---- buffers

pub count_lent : (buffers : List Bytes) → length (lent_buffers buffers) ≡ length buffers
count_lent buffers = length-map buffers (λ b. b.bytes.now)

-- four bytes that spell the same number are the same
same_four : (xs ys : List ℕ) (m n : ℕ) → length xs ≡ 4 → length ys ≡ 4 → AreBytes xs → AreBytes ys → m ≡ from_be_bytes w32 xs → n ≡ from_be_bytes w32 ys → m ≡ n → xs ≡ ys
same_four xs ys m n size size_too small small_too is is_too same =
    sym (be_bytes_4 xs m size small is) ∙ ap (to_be_bytes w32) same ∙ be_bytes_4 ys n size_too small_too is_too

-- a row of more than 12 bytes that fits in its buffer and begins with the prefix
pub lies-in : (buffers : List (List ℕ)) (v bytes : List ℕ) (number at len m n : ℕ) → IsView v → 12 < view_len v → number < length buffers → number ≡ view_buffer v → at ≡ view_offset v → len ≡ view_len v → bytes ≡ buffer_at buffers number → at + len ≤ length bytes → AreBytes bytes → m ≡ from_be_bytes w32 (take 4 (drop at bytes)) → n ≡ from_be_bytes w32 (view_prefix v) → m ≡ n → InBuffer buffers v
lies-in buffers v bytes number at len m n view long low is begin size buffer fits small first prefix same =
    let there : bytes ≡ buffer_at buffers (view_buffer v) = buffer ∙ ap (buffer_at buffers) is in
    let four : length (take 4 (drop at bytes)) ≡ 4 = simp (length-take, length-drop) (omega (arith, fits, size, long)) in
    let four_too : length (view_prefix v) ≡ 4 = simp (length-take, length-drop) (omega (arith, view.size)) in
    let told : take 4 (drop at bytes) ≡ view_prefix v = same_four (take 4 (drop at bytes)) (view_prefix v) m n four four_too (bytes_take 4 (drop at bytes) (bytes_drop at bytes small)) (bytes_take 4 (drop 4 v) (bytes_drop 4 v view.bytes)) first prefix same in
    record {
      buffer = omega (arith, low, is);
      fits = omega (arith, fits, begin, size, ap length there);
      prefix = sym told ∙ ap (λ k. take 4 (drop k bytes)) begin ∙ ap (λ bs. take 4 (drop (view_offset v) bs)) there;
    }

-- the bytes of a row in its buffer
pub row-in : (buffers : List (List ℕ)) (v bytes : List ℕ) (at len : ℕ) → 12 < view_len v → at ≡ view_offset v → len ≡ view_len v → bytes ≡ buffer_at buffers (view_buffer v) → take (at + len - at) (drop at bytes) ≡ row_bytes buffers v
row-in buffers v bytes at len long begin size buffer =
    let count : at + len - at ≡ view_len v = omega (arith, size) in
    ap (λ n. take n (drop at bytes)) count
    ∙ ap (λ n. take (view_len v) (drop n bytes)) begin
    ∙ ap (λ bs. take (view_len v) (drop (view_offset v) bs)) buffer
    ∙ sym (long_row buffers v long)

-- a row in a stretch of ASCII bytes is a text
pub stretch-text : (buffers : List (List ℕ)) (s : Stretch) (v : List ℕ) → IsAsciiStretch buffers s → 12 < view_len v → HoldsRow s v → IsUtf8 (row_bytes buffers v)
stretch-text buffers s v ascii long holds =
    let bytes = buffer_at buffers s.number in
    let known = window s.from (s.to - s.from) bytes in
    let at = view_offset v - s.from in
    let start : s.from + at ≡ view_offset v = omega (arith, holds.begins) in
    let inside : window at (view_len v) known ≡ window (s.from + at) (view_len v) bytes = window_within s.from (s.to - s.from) at (view_len v) bytes (omega (arith, holds.begins, holds.ends)) in
    let cut : IsAscii (window at (view_len v) known) = IsAscii-take (drop at known) (view_len v) (IsAscii-drop known at ascii) in
    let same : window at (view_len v) known ≡ row_bytes buffers v = inside ∙ ap (λ n. window n (view_len v) bytes) start ∙ ap (λ k. window (view_offset v) (view_len v) (buffer_at buffers k)) (sym holds.number) ∙ sym (long_row buffers v long) in
    subst IsUtf8 same (IsUtf8-from_ascii (window at (view_len v) known) cut)

-- the views of a part lead to rows
pub row-views : (p : Part) (texts : Bool) (n : ℕ) → ArePartViews p texts → n ≡ p.rows → AreRowViews (buffers_in p) p.u8s.now n
row-views p texts n are is = record {
  size = omega (arith, is, are.size);
  rows = λ i low. (are.rows i (omega (arith, low, is))).leads;
}

-- for each of n pairs of views there is a truth value
pub count-same : (buffers others : List (List ℕ)) (views more : List ℕ) (n : ℕ) → length (same_rows buffers views others more n) ≡ n
count-same buffers others views more n =
    length-first (λ i. bytes_eq (row_bytes buffers (sized_string 16 views i)) (row_bytes others (sized_string 16 more i))) n
