-- What good views say of their rows.
use Rattle.std.proofs.Common.{◌≡◌, ◌≤◌, ◌<◌, ◌+◌, inl, inr, ℕ, zero, suc, List, ◌++◌, length, take, drop, refl, sym, ap, ◌∙◌, arith}
use Rattle.std.specs.Int.{w32, from_le_bytes, to_le_bytes}
use Rattle.std.proofs.Math.Seq.{take-length}
use Rattle.std.proofs.lemmas.Bool.{cases_lt}
use Rattle.std.proofs.lemmas.Bool.Decides.{nat_tests}
use Rattle.std.proofs.lemmas.List.{get_or-take, length-take, length-drop, take-take, take-append-drop, drop-drop, drop-take}
use Rattle.std.proofs.lemmas.Nat.{le_bytes_4}
use Rattle.polars_arrays_flat.specs.ByteOrderLaws.{bytes_take}
use Rattle.polars_arrays_flat.specs.ByteOrder.{AreBytes}
use Rattle.polars_arrays_views.specs.Views.{IsView, GoodView, AllZero, view_len, view_prefix, view_offset, view_buffer, buffer_at, row_bytes, padded, short_view}
use Rattle.polars_arrays_views.proofs.Padding.{length-padded, zeros_after, front_of_padded, padded_zeros, padded_long}
use Rattle.polars_arrays_views.proofs.Words.{bytes_padded}

-- the two forms of a row
pub short_row : (buffers : List (List ℕ)) (v : List ℕ) → view_len v ≤ 12 → row_bytes buffers v ≡ take (view_len v) (drop 4 v)
unfolding row_bytes
short_row buffers v short = grind (arith, nat_tests)

pub long_row : (buffers : List (List ℕ)) (v : List ℕ) → 12 < view_len v → row_bytes buffers v ≡ take (view_len v) (drop (view_offset v) (buffer_at buffers (view_buffer v)))
unfolding row_bytes
long_row buffers v long = grind (arith, nat_tests)

-- a row is short or long
by_len : {P : Type 0} (n : ℕ) → (n ≤ 12 → P) → (12 < n → P) → P
by_len n short long = elim (cases_lt 12 n) [ inl h ↦ long h | inr h ↦ short h ]

-- a view's length is its row's
pub row_length : (buffers : List (List ℕ)) (v : List ℕ) → GoodView buffers v → length (row_bytes buffers v) ≡ view_len v
row_length buffers v good =
    by_len (view_len v)
    (λ short. rw (short_row buffers v short) (simp (length-take, length-drop) (omega (arith, good.view.size))))
    (λ long.
    let fits = (good.long long).fits in
    rw (long_row buffers v long) (simp (length-take, length-drop) (omega arith)))

pub length_of_row : (buffers : List (List ℕ)) (v row : List ℕ) → GoodView buffers v → row_bytes buffers v ≡ row → length row ≡ view_len v
length_of_row buffers v row good is_row = ap length (sym is_row) ∙ row_length buffers v good

length-behind : (buffers : List (List ℕ)) (v : List ℕ) → GoodView buffers v → length (drop 4 v) ≡ 12
length-behind buffers v good = simp length-drop (omega (arith, good.view.size))

zeros_behind : (v : List ℕ) → AllZero (drop (4 + view_len v) v) → AllZero (drop (view_len v) (drop 4 v))
zeros_behind v zeros = rw drop-drop zeros

-- the bytes of a short row, with zeros after them
pub inlined_tail : (v : List ℕ) → IsView v → view_len v ≤ 12 → AllZero (drop (4 + view_len v) v) → drop 4 v ≡ padded 12 (take (view_len v) (drop 4 v))
inlined_tail v view short zeros =
    let size : length (drop 4 v) ≡ 12 = simp length-drop (omega (arith, view.size)) in
    sym (rw size at (take-length (drop 4 v))) ∙ padded_zeros 12 (view_len v) (drop 4 v) (omega arith) (zeros_behind v zeros)

-- a short view is its row with zeros after it
pub short_tail : (buffers : List (List ℕ)) (v : List ℕ) → GoodView buffers v → view_len v ≤ 12 → drop 4 v ≡ padded 12 (row_bytes buffers v)
short_tail buffers v good short =
    inlined_tail v good.view short (good.short short) ∙ ap (padded 12) (sym (short_row buffers v short))

-- the prefix is the row's first four bytes, with zeros where there are fewer
pub prefix_is : (buffers : List (List ℕ)) (v : List ℕ) → GoodView buffers v → view_prefix v ≡ padded 4 (row_bytes buffers v)
prefix_is buffers v good =
    by_len (view_len v)
    (λ short.
    let size = length-behind buffers v good in
    rw (short_row buffers v short) (padded_zeros 4 (view_len v) (drop 4 v) (omega arith) (zeros_behind v (good.short short))))
    (λ long.
    let row = row_bytes buffers v in
    let stored = drop (view_offset v) (buffer_at buffers (view_buffer v)) in
    let four : 4 ≤ length row = omega (arith, row_length buffers v good) in
    let first : take 4 row ≡ take 4 stored = ap (take 4) (long_row buffers v long) ∙ take-take 4 (view_len v) stored (omega arith) in
    (good.long long).prefix ∙ sym first ∙ sym (padded_long 4 row four))

-- ---- the first eight bytes are the length and the prefix
len_is : (v : List ℕ) → view_len v ≡ from_le_bytes w32 (take 4 v)
unfolding view_len
len_is v =
    rw (get_or-take 4 v 0 0 (omega arith), get_or-take 4 v 1 0 (omega arith), get_or-take 4 v 2 0 (omega arith), get_or-take 4 v 3 0 (omega arith)) refl

-- four bytes that spell the length
front_is : (v : List ℕ) → IsView v → to_le_bytes w32 (view_len v) ≡ take 4 v
front_is v view =
    le_bytes_4 (take 4 v) (view_len v) (simp length-take (omega (arith, view.size))) (bytes_take 4 v view.bytes) (len_is v)

head_is : (v : List ℕ) → IsView v → take 8 v ≡ to_le_bytes w32 (view_len v) ++ view_prefix v
head_is v view =
    sym (take-append-drop 4 (take 8 v))
    ∙ ap (λ (front : List ℕ). front ++ drop 4 (take 8 v)) (take-take 4 8 v (omega arith) ∙ sym (front_is v view))
    ∙ ap (λ (rest : List ℕ). to_le_bytes w32 (view_len v) ++ rest) (drop-take 4 4 v)

pub same_head : (v w : List ℕ) → IsView v → IsView w → view_len v ≡ view_len w → view_prefix v ≡ view_prefix w → take 8 v ≡ take 8 w
same_head v w view other len prefix =
    head_is v view
    ∙ ap (λ (n : ℕ). to_le_bytes w32 n ++ view_prefix v) len
    ∙ ap (λ (rest : List ℕ). to_le_bytes w32 (view_len w) ++ rest) prefix
    ∙ sym (head_is w other)

pub len_from_head : (v w : List ℕ) → take 8 v ≡ take 8 w → view_len v ≡ view_len w
len_from_head v w head =
    let front : take 4 v ≡ take 4 w = sym (take-take 4 8 v (omega arith)) ∙ ap (take 4) head ∙ take-take 4 8 w (omega arith) in
    len_is v ∙ ap (from_le_bytes w32) front ∙ sym (len_is w)

pub prefix_from_head : (v w : List ℕ) → take 8 v ≡ take 8 w → view_prefix v ≡ view_prefix w
prefix_from_head v w head = sym (drop-take 4 4 v) ∙ ap (drop 4) head ∙ drop-take 4 4 w

-- ---- the view that holds a short row is good over any buffers, and stands for it
short_view_len : (row : List ℕ) → length row ≤ 12 → view_len (short_view row) ≡ length row
unfolding view_len
short_view_len row short = omega arith

short_view_bytes : (row : List ℕ) → length row ≤ 12 → AreBytes row → AreBytes (short_view row)
short_view_bytes row short bytes zero = omega arith
short_view_bytes row short bytes (suc zero) = omega arith
short_view_bytes row short bytes (suc (suc zero)) = omega arith
short_view_bytes row short bytes (suc (suc (suc zero))) = omega arith
short_view_bytes row short bytes (suc (suc (suc (suc k)))) = bytes_padded 12 row bytes k

pub good_short : (buffers : List (List ℕ)) (row : List ℕ) → length row ≤ 12 → AreBytes row → GoodView buffers (short_view row)
good_short buffers row short bytes =
    let len = short_view_len row short in
    record {
      view = record { size = omega (arith, length-padded 12 row); bytes = short_view_bytes row short bytes };
      short = λ within. rw (len, ← drop-drop) (zeros_after 12 row);
      long = λ long. absurd (omega arith);
    }

pub row_of_short : (buffers : List (List ℕ)) (row : List ℕ) → length row ≤ 12 → row_bytes buffers (short_view row) ≡ row
row_of_short buffers row short =
    let len = short_view_len row short in
    short_row buffers (short_view row) (omega arith)
    ∙ ap (λ (n : ℕ). take n (padded 12 row)) len
    ∙ front_of_padded 12 row short
