-- What the bytes of two good views tell of the equality of their rows.
use Rattle.std.proofs.Common.{◌≡◌, ◌≤◌, ◌<◌, ◌↔◌, ℕ, Bool, true, false, List, [], ◌++◌, length, take, drop, refl, sym, ap, ◌∙◌, arith}
use Rattle.std.specs.Bool.{Decides}
use Rattle.std.specs.Int.{w32, from_be_bytes}
use Rattle.std.specs.Str.{bytes_eq}
use Rattle.std.proofs.lemmas.Bool.Decides.{Decides-and, Decides-eqb, Decides-ltb}
use Rattle.std.proofs.lemmas.List.{take-append-drop, drop-drop}
use Rattle.std.proofs.lemmas.Slice.Eq.{bytes_eq-Decides}
use Rattle.polars_arrays_views.specs.Views.{GoodView, HoldsScalar, view_len, view_prefix, row_bytes, padded, followed_eq}
use Rattle.polars_arrays_views.proofs.GoodViews.{short_row, short_tail, length_of_row, prefix_is, same_head, len_from_head, prefix_from_head}
use Rattle.polars_arrays_views.proofs.Padding.{padded_long}

-- a test of what does not hold is false
pub decided_false : {P : Type 0} (b : Bool) → Decides b P → ¬ P → b ≡ false
decided_false true decides never = absurd (never (decides.0 refl))
decided_false false decides never = refl

Decides-followed_eq : (xs ys : List ℕ) → Decides (followed_eq xs ys) (((length xs ≡ length ys) × (12 < length xs)) × (take 4 xs ≡ take 4 ys))
Decides-followed_eq xs ys =
    Decides-and _ _ (Decides-and _ _ (Decides-eqb (length xs) (length ys)) (Decides-ltb 12 (length xs))) (bytes_eq-Decides (take 4 xs) (take 4 ys))

-- two views of the rows xs and ys
module _ (buffers others : List (List ℕ)) (v w xs ys : List ℕ) (good : GoodView buffers v) (good_too : GoodView others w) (row : row_bytes buffers v ≡ xs) (row_too : row_bytes others w ≡ ys) where
  len : view_len v ≡ length xs
  len = sym (length_of_row buffers v xs good row)

  len_too : view_len w ≡ length ys
  len_too = sym (length_of_row others w ys good_too row_too)

  prefix : view_prefix v ≡ padded 4 xs
  prefix = prefix_is buffers v good ∙ ap (padded 4) row

  prefix_too : view_prefix w ≡ padded 4 ys
  prefix_too = prefix_is others w good_too ∙ ap (padded 4) row_too

  -- equal rows have equal first eight bytes
  head_from_rows : xs ≡ ys → take 8 v ≡ take 8 w
  head_from_rows same =
      same_head v w good.view good_too.view (len ∙ ap length same ∙ sym len_too) (prefix ∙ ap (padded 4) same ∙ sym prefix_too)

  -- where the first eight bytes differ, the rows differ, and none is looked up
  pub unequal_from_head : ¬ (take 8 v ≡ take 8 w) → bytes_eq xs ys ≡ false
  unequal_from_head other =
      decided_false _ (bytes_eq-Decides xs ys) (λ same. other (head_from_rows same))

  pub not_followed-other_head : ¬ (take 8 v ≡ take 8 w) → followed_eq xs ys ≡ false
  not_followed-other_head other =
      decided_false _ (Decides-followed_eq xs ys) (λ followed.
      let lengths = followed.0.0 in
      let long = followed.0.1 in
      let first : padded 4 xs ≡ padded 4 ys = padded_long 4 xs (omega arith) ∙ followed.1 ∙ sym (padded_long 4 ys (omega arith)) in
      other (same_head v w good.view good_too.view (len ∙ lengths ∙ sym len_too) (prefix ∙ first ∙ sym prefix_too)))

  view_from_halves : take 8 v ≡ take 8 w → drop 8 v ≡ drop 8 w → v ≡ w
  view_from_halves head tail =
      sym (take-append-drop 8 v) ∙ ap (λ (rest : List ℕ). rest ++ drop 8 v) head ∙ ap (λ (rest : List ℕ). take 8 w ++ rest) tail ∙ take-append-drop 8 w

  -- where they agree, short rows are equal exactly where the last eight bytes are
  rows_from_tail : take 8 v ≡ take 8 w → view_len v ≤ 12 → drop 8 v ≡ drop 8 w → xs ≡ ys
  rows_from_tail head short tail =
      let same : v ≡ w = view_from_halves head tail in
      let lengths = ap view_len same in
      sym row ∙ short_row buffers v short ∙ ap (λ (view : List ℕ). take (view_len view) (drop 4 view)) same ∙ sym (short_row others w (omega arith)) ∙ row_too

  tail_from_rows : take 8 v ≡ take 8 w → view_len v ≤ 12 → xs ≡ ys → drop 8 v ≡ drop 8 w
  tail_from_rows head short same =
      let lengths = len_from_head v w head in
      let rest : drop 4 v ≡ drop 4 w = short_tail buffers v good short ∙ ap (padded 12) (row ∙ same ∙ sym row_too) ∙ sym (short_tail others w good_too (omega arith)) in
      sym (drop-drop 4 4 v) ∙ ap (drop 4) rest ∙ drop-drop 4 4 w

  pub equal_by_both : view_len v ≤ 12 → ((take 8 v ≡ take 8 w) × (drop 8 v ≡ drop 8 w)) ↔ (xs ≡ ys)
  equal_by_both short =
      ((λ both. rows_from_tail both.0 short both.1), (λ same. let head = head_from_rows same in (head, tail_from_rows head short same)))

  pub equal_by_all : view_len v ≤ 12 → (v ≡ w) ↔ (xs ≡ ys)
  equal_by_all short =
      let told = equal_by_both short in
      ((λ same. told.0 (ap (take 8) same, ap (drop 8) same)), (λ rows. let both = told.1 rows in view_from_halves both.0 both.1))

  pub not_followed-short : view_len v ≤ 12 → followed_eq xs ys ≡ false
  not_followed-short short =
      decided_false _ (Decides-followed_eq xs ys) (λ followed. let long = followed.0.1 in omega (arith, len))

  -- where they agree, long rows are looked up
  pub followed-long : take 8 v ≡ take 8 w → 12 < view_len v → followed_eq xs ys ≡ true
  followed-long head long =
      let lengths : length xs ≡ length ys = sym len ∙ len_from_head v w head ∙ len_too in
      let first : padded 4 xs ≡ padded 4 ys = sym prefix ∙ prefix_from_head v w head ∙ prefix_too in
      (Decides-followed_eq xs ys).1
      ((lengths, omega (arith, len)), sym (padded_long 4 xs (omega (arith, len))) ∙ first ∙ padded_long 4 ys (omega (arith, len)))

-- a view of the row xs beside a byte string
module _ (buffers : List (List ℕ)) (v w xs ys : List ℕ) (good : GoodView buffers v) (row : row_bytes buffers v ≡ xs) (holds : HoldsScalar w ys) where
  pub unequal_from_length : ¬ (view_len v ≡ length ys) → bytes_eq xs ys ≡ false
  unequal_from_length other =
      decided_false _ (bytes_eq-Decides xs ys) (λ same. other (sym (length_of_row buffers v ys good (row ∙ same))))

  pub unequal_from_prefix : ¬ (from_be_bytes w32 (view_prefix v) ≡ from_be_bytes w32 (view_prefix w)) → bytes_eq xs ys ≡ false
  unequal_from_prefix other =
      decided_false _ (bytes_eq-Decides xs ys) (λ same. other (ap (from_be_bytes w32) (prefix_is buffers v good ∙ ap (padded 4) (row ∙ same) ∙ sym holds.prefix)))

  -- a short byte string is the row exactly where all bytes of the views agree
  pub equal_to_short : length ys ≤ 12 → ((take 8 w ≡ take 8 v) × (drop 8 w ≡ drop 8 v)) ↔ (xs ≡ ys)
  equal_to_short short =
      let good_too = holds.good short in
      let row_too = holds.row short in
      let told = equal_by_both [] buffers w v ys xs good_too good row_too row (omega (arith, length_of_row [] w ys good_too row_too)) in
      ((λ both. sym (told.0 both)), (λ same. told.1 (sym same)))
