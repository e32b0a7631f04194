-- What prefixes tell of the order of rows.
use Rattle.std.proofs.Common.{◌≡◌, ◌≢◌, ◌≤◌, ◌<◌, ◌+◌, ◌⊎◌, ◌||◌, ◌&&◌, inl, inr, max, ℕ, Bool, true, false, cond, nat_lt, List, length, take, drop, refl, sym, subst, ap, ◌∙◌, arith}
use Rattle.std.specs.Cmp.Lexicographic.{slice_cmp}
use Rattle.std.specs.Bool.{Decides}
use Rattle.std.specs.Int.{w32, w64, from_be_bytes}
use Rattle.std.specs.Ordering.{nat_cmp, is_lt, is_eq, ordering_then}
use Rattle.std.specs.declared.cmp.Ordering.{Ordering}
use Rattle.std.specs.declared.cmp.Ordering.TheVariants.{Less, Equal, Greater}
use Rattle.std.proofs.lemmas.Bool.{cases_lt}
use Rattle.std.proofs.lemmas.Bool.Decides.{Decides-and, Decides-or, Decides-ltb}
use Rattle.std.proofs.lemmas.List.{drop-drop, length-drop, length-take}
use Rattle.std.proofs.lemmas.Map.Text.{is_eq-slice_cmp}
use Rattle.std.proofs.lemmas.Slice.Eq.{bytes_eq-Decides}
use Rattle.polars_arrays_flat.specs.ByteOrder.{AreBytes, bytes_lt}
use Rattle.polars_arrays_flat.specs.ByteOrderLaws.{bytes_drop, bytes_take, eight_decide, equal_from, four_decide, overlap}
use Rattle.polars_arrays_views.specs.Views.{AllZero, GoodView, HoldsScalar, IsView, view_len, view_prefix, row_bytes, padded, followed_lt}
use Rattle.polars_arrays_views.proofs.EqualRows.{decided_false}
use Rattle.polars_arrays_views.proofs.GoodViews.{inlined_tail, prefix_is}
use Rattle.polars_arrays_views.proofs.Padding.{filled_decide, length-padded, padded_decides}
use Rattle.polars_arrays_views.proofs.Words.{bytes_padded}

-- p is the number that the first four bytes of a row spell, the first being the greatest
pub record IsPrefix (p : ℕ) (row : List ℕ) : Type 0 where
  pub number : p ≡ from_be_bytes w32 (padded 4 row)
  pub bytes : AreBytes (padded 4 row)

pub prefix_of_view : (buffers : List (List ℕ)) (v row : List ℕ) (p : ℕ) → GoodView buffers v → row_bytes buffers v ≡ row → p ≡ from_be_bytes w32 (view_prefix v) → IsPrefix p row
prefix_of_view buffers v row p good is_row number =
    let same : view_prefix v ≡ padded 4 row = prefix_is buffers v good ∙ ap (padded 4) is_row in
    record {
      number = number ∙ ap (from_be_bytes w32) same;
      bytes = subst AreBytes same (bytes_take 4 (drop 4 v) (bytes_drop 4 v good.view.bytes));
    }

pub prefix_of_scalar : (v row : List ℕ) (p : ℕ) → HoldsScalar v row → p ≡ from_be_bytes w32 (view_prefix v) → IsPrefix p row
prefix_of_scalar v row p holds number =
    record { number = number ∙ ap (from_be_bytes w32) holds.prefix; bytes = bytes_padded 4 row holds.bytes }

test_of_cmp : (b c : Bool) → b ≡ is_lt (cond b Less (cond c Equal Greater))
test_of_cmp true c = refl
test_of_cmp false true = refl
test_of_cmp false false = refl

Decides-followed_lt : (xs ys : List ℕ) → Decides (followed_lt xs ys) ((padded 4 xs ≡ padded 4 ys) × ((12 < length xs) ⊎ (12 < length ys)))
Decides-followed_lt xs ys =
    Decides-and _ _ (bytes_eq-Decides (padded 4 xs) (padded 4 ys)) (Decides-or _ _ (Decides-ltb 12 (length xs)) (Decides-ltb 12 (length ys)))

-- two rows and their prefixes
module _ (p q : ℕ) (xs ys : List ℕ) (first : IsPrefix p xs) (second : IsPrefix q ys) where
  numbers : nat_cmp p q ≡ slice_cmp nat_cmp (padded 4 xs) (padded 4 ys)
  numbers =
      (λ i. nat_cmp (first.number i) (second.number i))
      ∙ four_decide (padded 4 xs) (padded 4 ys) (length-padded 4 xs) (length-padded 4 ys) first.bytes second.bytes

  filled_differ : p ≢ q → padded 4 xs ≢ padded 4 ys
  filled_differ differ same = differ (first.number ∙ ap (from_be_bytes w32) same ∙ sym second.number)

  filled_agree : p ≡ q → padded 4 xs ≡ padded 4 ys
  filled_agree agree =
      let same : slice_cmp nat_cmp (padded 4 xs) (padded 4 ys) ≡ Equal = sym numbers ∙ equal_from _ _ agree in
      (bytes_eq-Decides (padded 4 xs) (padded 4 ys)).0 (sym (is_eq-slice_cmp (padded 4 xs) (padded 4 ys)) ∙ ap is_eq same)

  -- prefixes that differ decide, and no row is looked up
  pub prefixes_decide : p ≢ q → nat_lt p q ≡ bytes_lt xs ys
  prefixes_decide differ =
      test_of_cmp _ _ ∙ ap is_lt (numbers ∙ padded_decides 4 xs ys (filled_differ differ))

  pub not_followed-other_prefix : p ≢ q → followed_lt xs ys ≡ false
  not_followed-other_prefix differ =
      decided_false _ (Decides-followed_lt xs ys) (λ followed. filled_differ differ followed.0)

  -- prefixes that agree decide nothing, and a long row is looked up
  pub followed-same_prefix : p ≡ q → 12 < max (length xs) (length ys) → followed_lt xs ys ≡ true
  followed-same_prefix agree long =
      (Decides-followed_lt xs ys).1
      (filled_agree agree, elim (cases_lt 12 (length xs)) [ inl h ↦ inl h | inr h ↦ inr (omega arith) ])

pub not_followed-both_short : (xs ys : List ℕ) → max (length xs) (length ys) ≤ 12 → followed_lt xs ys ≡ false
not_followed-both_short xs ys short =
    decided_false _ (Decides-followed_lt xs ys) (λ followed. elim followed.1 [ inl h ↦ omega arith | inr h ↦ omega arith ])

either_part : (o e u : Ordering) → ordering_then (ordering_then o e) u ≡ ordering_then o (ordering_then e u)
either_part Less e u = refl
either_part Equal e u = refl
either_part Greater e u = refl

-- less by first numbers, or where these are equal by what follows
pub either_less : (less same rest : Bool) (o : Ordering) → rest ≡ is_lt o → (less || (same && rest)) ≡ is_lt (ordering_then (cond less Less (cond same Equal Greater)) o)
either_less true same rest o e = refl
either_less false true rest o e = e
either_less false false rest o e = refl

-- two views that hold their rows, and the numbers in them
module _ (v w : List ℕ) (view : IsView v) (view_too : IsView w) (short : view_len v ≤ 12) (short_too : view_len w ≤ 12) (zeros : AllZero (drop (4 + view_len v) v)) (zeros_too : AllZero (drop (4 + view_len w) w)) where
  size_of : (u : List ℕ) → IsView u → view_len u ≤ 12 → length (take (view_len u) (drop 4 u)) ≡ view_len u
  size_of u good small = simp (length-take, length-drop) (omega (arith, good.size))

  prefixes_cmp : nat_cmp (from_be_bytes w32 (view_prefix v)) (from_be_bytes w32 (view_prefix w)) ≡ slice_cmp nat_cmp (view_prefix v) (view_prefix w)
  prefixes_cmp =
      four_decide (view_prefix v) (view_prefix w) (simp (length-take, length-drop) (omega (arith, view.size))) (simp (length-take, length-drop) (omega (arith, view_too.size)))
      (bytes_take 4 (drop 4 v) (bytes_drop 4 v view.bytes)) (bytes_take 4 (drop 4 w) (bytes_drop 4 w view_too.bytes))

  rests_cmp : nat_cmp (from_be_bytes w64 (drop 8 v)) (from_be_bytes w64 (drop 8 w)) ≡ slice_cmp nat_cmp (drop 4 (drop 4 v)) (drop 4 (drop 4 w))
  rests_cmp =
      eight_decide (drop 8 v) (drop 8 w) (simp length-drop (omega (arith, view.size))) (simp length-drop (omega (arith, view_too.size)))
      (bytes_drop 8 v view.bytes) (bytes_drop 8 w view_too.bytes)
      ∙ (λ i. slice_cmp nat_cmp (sym (drop-drop 4 4 v) i) (sym (drop-drop 4 4 w) i))

  -- the prefixes decide, or else the bytes after them, or else the lengths
  pub inlined_decide : slice_cmp nat_cmp (take (view_len v) (drop 4 v)) (take (view_len w) (drop 4 w))
      ≡ ordering_then (nat_cmp (from_be_bytes w32 (view_prefix v)) (from_be_bytes w32 (view_prefix w))) (ordering_then (nat_cmp (from_be_bytes w64 (drop 8 v)) (from_be_bytes w64 (drop 8 w))) (nat_cmp (view_len v) (view_len w)))
  inlined_decide =
      let first = size_of v view short in
      let second = size_of w view_too short_too in
      filled_decide 12 (take (view_len v) (drop 4 v)) (take (view_len w) (drop 4 w)) (omega arith) (omega arith)
      ∙ (λ i. ordering_then (slice_cmp nat_cmp (sym (inlined_tail v view short zeros) i) (sym (inlined_tail w view_too short_too zeros_too) i)) (nat_cmp (first i) (second i)))
      ∙ ap (λ (o : Ordering). ordering_then o (nat_cmp (view_len v) (view_len w))) (overlap 4 4 (drop 4 v) (drop 4 w) (omega arith) ∙ (λ i. ordering_then (sym prefixes_cmp i) (sym rests_cmp i)))
      ∙ either_part (nat_cmp (from_be_bytes w32 (view_prefix v)) (from_be_bytes w32 (view_prefix w))) (nat_cmp (from_be_bytes w64 (drop 8 v)) (from_be_bytes w64 (drop 8 w))) (nat_cmp (view_len v) (view_len w))
