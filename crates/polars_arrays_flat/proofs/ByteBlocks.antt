-- Prefixes of byte strings, sixteen bytes of which are compared at once.
use Rattle.std.proofs.Common.{◌≡◌, ◌≢◌, ◌≤◌, ◌<◌, ◌-◌, ◌%◌, ◌^◌, ◌&&◌, ◌||◌, ◌↔◌, ℕ, zero, suc, Bool, true, false, cond, not, eqb, leb, nat_eq, nat_lt, min, List, ◌∷◌, length, take, get_or, map, refl, sym, ap, ◌∙◌, arith, inl, inr}
use Rattle.std.specs.Cmp.Lexicographic.{slice_cmp}
use Rattle.std.specs.Int.{bit_at, trailing_zeros}
use Rattle.std.specs.Int.Bits.{bit_and}
use Rattle.std.specs.Int.Count.{trailing_of_zero}
use Rattle.std.specs.Ordering.{nat_cmp, is_lt, ordering_then}
use Rattle.std.specs.declared.cmp.Ordering.{Ordering}
use Rattle.std.specs.Simd.Lanes.{mask_l, top, zip2}
use mir.Syntax.{w8, w64}
use Rattle.std.specs.Str.{bytes_eq}
use Rattle.std.proofs.lemmas.Bool.{and_from, and_parts, cases_eq, cases_lt, le-leb, le-ltb, leb-true, lt-leb, lt-ltb}
use Rattle.std.proofs.lemmas.Bool.Decides.{Decides-eqb, nat_tests, same_from_decides}
use Rattle.std.proofs.lemmas.Grind.{same_number_lists}
use Rattle.std.proofs.lemmas.List.{get_or-take, length-take}
use Rattle.std.proofs.lemmas.Nat.Bits.{bit_at-lt, bit_at-trailing_zeros, bit_at-zero, bit_at_and, bit_at_ones, bit_at_ones_above, same_from_bits}
use Rattle.std.proofs.lemmas.Simd.{tops_compared, bit_mask_l, mask_l-mod, mask_l-lt, length-zip2, get_or-zip2}
use Rattle.std.proofs.lemmas.Slice.Eq.{bytes_eq-Decides}
use Rattle.polars_arrays_flat.specs.ByteOrder.{bytes_lt}
use Rattle.polars_arrays_flat.specs.ByteOrderLaws.{equal_from}
use Rattle.polars_arrays_flat.proofs.ByteParts.{less_decided}

-- the places of a block at which two byte strings differ
abbrev differing : List ℕ → List ℕ → List Bool
differing xs ys = zip2 (λ a b. not (eqb a b)) (take 16 xs) (take 16 ys)

marked : (b : Bool) (n : ℕ) → n ≡ cond b 1 0 → n ≡ 1 → b ≡ true
marked true n e one = refl
marked false n e one = absurd (omega arith)

unmarked : (b : Bool) (n : ℕ) → n ≡ cond b 1 0 → n ≡ 0 → b ≡ false
unmarked true n e none = absurd (omega arith)
unmarked false n e none = refl

same_from : (a b : ℕ) → not (eqb a b) ≡ false → a ≡ b
same_from a b e = grind (arith, e)

not_apart : (a b : ℕ) → a ≡ b → not (eqb a b) ≡ false
not_apart a b e = grind (arith, e)

apart_from : (a b : ℕ) → not (eqb a b) ≡ true → a ≢ b
apart_from a b e same = grind (arith, e, same)

module _ (xs ys : List ℕ) (left_in : 16 ≤ length xs) (right_in : 16 ≤ length ys) where
  long : length (differing xs ys) ≡ 16
  long =
      length-zip2 (λ a b. not (eqb a b)) (take 16 xs) (take 16 ys) (omega (arith, left_in, right_in, length-take 16 xs, length-take 16 ys))
      ∙ omega (arith, left_in, length-take 16 xs)

  place : (i : ℕ) → i < 16 → get_or (differing xs ys) i false ≡ not (eqb (get_or xs i 0) (get_or ys i 0))
  place i lt =
      get_or-zip2 (λ a b. not (eqb a b)) (take 16 xs) (take 16 ys) i 0 0 false (omega (arith, left_in, lt, length-take 16 xs)) (omega (arith, right_in, lt, length-take 16 ys))
      ∙ (λ j. not (eqb (get_or-take 16 xs i 0 lt j) (get_or-take 16 ys i 0 lt j)))

  -- the number that the vector's test gives
  module _ (w : ℕ) (mask : w ≡ mask_l (differing xs ys)) where
    below : w < 2 ^ 64
    below = omega (arith, mask, ap (λ (n : ℕ). 2 ^ n) long, mask_l-lt (differing xs ys))

    bit : (i : ℕ) → i < 16 → bit_at w i ≡ cond (not (eqb (get_or xs i 0) (get_or ys i 0))) 1 0
    bit i lt = ap (λ n. bit_at n i) mask ∙ bit_mask_l (differing xs ys) i ∙ ap (λ b. cond b 1 0) (place i lt)

    pub before : (i : ℕ) → i < 16 → i < trailing_zeros w64 w → get_or xs i 0 ≡ get_or ys i 0
    before i lt to =
        same_from _ _ (unmarked _ _ (bit i lt) (elim (cases_eq w 0) [
          | inl none ↦ ap (λ n. bit_at n i) none ∙ bit_at-zero i
          | inr some ↦ (bit_at-trailing_zeros w64 w (omega arith) below).2 i to
        ]))

    pub at_end : trailing_zeros w64 w < 16 → get_or xs (trailing_zeros w64 w) 0 ≢ get_or ys (trailing_zeros w64 w) 0
    at_end lt =
        apart_from _ _ (marked _ _ (bit (trailing_zeros w64 w) lt) (elim (cases_eq w 0) [
          | inl none ↦ absurd (omega (arith, lt, ap (λ n. trailing_zeros w64 n) none ∙ trailing_of_zero 64))
          | inr some ↦ (bit_at-trailing_zeros w64 w (omega arith) below).1
        ]))

    pub same_bit : (i : ℕ) → i < 16 → (bit_at w i ≡ 0) ↔ (get_or xs i 0 ≡ get_or ys i 0)
    same_bit i lt = (λ none. same_from _ _ (unmarked _ _ (bit i lt) none), λ e. bit i lt ∙ ap (λ b. cond b 1 0) (not_apart _ _ e))

  pub mask_is : mask_l (map (top 7) (zip2 (λ a b. cond (not (eqb a b)) 255 0) (take 16 xs) (take 16 ys))) % 18446744073709551616 ≡ mask_l (differing xs ys)
  mask_is =
      ap (λ bs. mask_l bs % 18446744073709551616) (tops_compared w8 (λ a b. not (eqb a b)) (take 16 xs) (take 16 ys))
      ∙ mask_l-mod (differing xs ys) 64 (omega (arith, long))

-- ---- prefixes that agree before place k and differ at it
-- k is the first place of sixteen at which two byte strings differ
pub record DifferFirstAt (k : ℕ) (xs ys : List ℕ) : Type 0 where
  pub same : (i : ℕ) → i < 16 → i < k → get_or xs i 0 ≡ get_or ys i 0
  pub apart : k < 16 → get_or xs k 0 ≢ get_or ys k 0

-- the bytes at the first place that differs decide
place_decides : (k n m : ℕ) (xs ys : List ℕ) → k < n → k < m → n ≤ length xs → m ≤ length ys → ((i : ℕ) → i < k → get_or xs i 0 ≡ get_or ys i 0) → get_or xs k 0 ≢ get_or ys k 0
    → nat_lt (get_or xs k 0) (get_or ys k 0) ≡ bytes_lt (take n xs) (take m ys)
place_decides zero (suc n) (suc m) (x ∷ xs) (y ∷ ys) left right left_in right_in same apart =
    less_decided x y (slice_cmp nat_cmp (take n xs) (take m ys)) apart
place_decides (suc k) (suc n) (suc m) (x ∷ xs) (y ∷ ys) left right left_in right_in same apart =
    place_decides k n m xs ys (omega arith) (omega arith) (omega arith) (omega arith) (λ i lt. same (suc i) (omega arith)) apart
    ∙ sym (ap (λ (o : Ordering). is_lt (ordering_then o (slice_cmp nat_cmp (take n xs) (take m ys)))) (equal_from x y (same 0 (omega arith))))
place_decides k n m xs ys left right left_in right_in same apart = absurd (omega arith)

lt_suc : (n m : ℕ) → nat_lt (suc n) (suc m) ≡ nat_lt n m
lt_suc n m = grind (arith, nat_tests)

-- where the bytes that both have are the same, the lengths decide
lengths_decide : (n m : ℕ) (xs ys : List ℕ) → n ≤ length xs → m ≤ length ys → ((i : ℕ) → i < n → i < m → get_or xs i 0 ≡ get_or ys i 0) → nat_lt n m ≡ bytes_lt (take n xs) (take m ys)
lengths_decide zero zero xs ys left_in right_in same = refl
lengths_decide zero (suc m) xs (y ∷ ys) left_in right_in same = lt-ltb 0 (suc m) (omega arith)
lengths_decide (suc n) zero (x ∷ xs) ys left_in right_in same = le-ltb (suc n) 0 (omega arith)
lengths_decide (suc n) (suc m) (x ∷ xs) (y ∷ ys) left_in right_in same =
    lt_suc n m
    ∙ lengths_decide n m xs ys (omega arith) (omega arith) (λ i a b. same (suc i) (omega arith) (omega arith))
    ∙ sym (ap (λ (o : Ordering). is_lt (ordering_then o (slice_cmp nat_cmp (take n xs) (take m ys)))) (equal_from x y (same 0 (omega arith) (omega arith))))
lengths_decide n m xs ys left_in right_in same = absurd (omega arith)

or_no : (b : Bool) → (b || false) ≡ b
or_no true = refl
or_no false = refl

-- the same test of both bytes and lengths
pub block_less : (k n m common place : ℕ) (xs ys : List ℕ) → n ≤ 16 → m ≤ 16 → n ≤ length xs → m ≤ length ys → common ≡ min n m → place ≡ min k 15 → DifferFirstAt k xs ys
    → ((nat_lt k common && nat_lt (get_or xs place 0) (get_or ys place 0)) || (leb common k && nat_lt n m)) ≡ bytes_lt (take n xs) (take m ys)
block_less k n m common place xs ys left_few right_few left_in right_in least within first =
    elim (cases_lt k common) [
      | inl h ↦
          let here : place ≡ k = omega arith in
          (λ i. (lt-ltb k common h i && nat_lt (get_or xs (here i) 0) (get_or ys (here i) 0)) || (lt-leb common k h i && nat_lt n m))
          ∙ or_no (nat_lt (get_or xs k 0) (get_or ys k 0))
          ∙ place_decides k n m xs ys (omega arith) (omega arith) left_in right_in (λ i lt. first.same i (omega arith) lt) (first.apart (omega arith))
      | inr h ↦
          (λ i. (le-ltb k common h i && nat_lt (get_or xs place 0) (get_or ys place 0)) || (le-leb common k h i && nat_lt n m))
          ∙ lengths_decide n m xs ys left_in right_in (λ i a b. first.same i (omega arith) (omega arith))
    ]

pub block_equal : (k n m : ℕ) (xs ys : List ℕ) → n ≤ 16 → m ≤ 16 → n ≤ length xs → m ≤ length ys → DifferFirstAt k xs ys → (nat_eq n m && leb n k) ≡ bytes_eq (take n xs) (take m ys)
block_equal k n m xs ys left_few right_few left_in right_in first =
    same_from_decides (nat_eq n m && leb n k) (bytes_eq (take n xs) (take m ys)) (
      λ t. let both = and_parts (nat_eq n m) (leb n k) t in whole ((Decides-eqb n m).0 both.0) (leb-true n k both.1),
      λ e. and_from (nat_eq n m) (leb n k) ((Decides-eqb n m).1 (one_length e)) (le-leb n k (reached e)),
    )
    (bytes_eq-Decides (take n xs) (take m ys))
  where
    one_length : take n xs ≡ take m ys → n ≡ m
    one_length e = omega (arith, left_in, right_in, length-take n xs, length-take m ys, ap (λ (zs : List ℕ). length zs) e)

    whole : n ≡ m → n ≤ k → take n xs ≡ take m ys
    whole long far =
        same_number_lists (take n xs) (take m ys) (omega (arith, left_in, right_in, long, length-take n xs, length-take m ys))
        (λ i lt.
        let below : i < n = omega (arith, lt, left_in, length-take n xs) in
        get_or-take n xs i 0 below ∙ first.same i (omega (arith, below, left_few)) (omega (arith, below, far)) ∙ sym (get_or-take m ys i 0 (omega (arith, below, long))))

    reached : take n xs ≡ take m ys → n ≤ k
    reached e = elim (cases_lt k n) [
      | inl h ↦ absurd (first.apart (omega (arith, h, left_few)) (sym (get_or-take n xs k 0 h) ∙ ap (λ (zs : List ℕ). get_or zs k 0) e ∙ get_or-take m ys k 0 (omega (arith, h, one_length e))))
      | inr h ↦ h
    ]

-- ---- a block whose first m bytes count, those that the lowest m bits of a word select
module _ (w m ones : ℕ) (are : ones ≡ 2 ^ m - 1) where
  -- a bit of a byte that counts is 0 if the selected bits are
  selected : bit_and w ones ≡ 0 → (i : ℕ) → i < m → bit_at w i ≡ 0
  selected none i lt =
      omega (arith, bit_at_and w ones i, ap (λ n. bit_at n i) none, bit_at-zero i, ap (λ n. bit_at n i) are, bit_at_ones m i lt, bit_at-lt w i)

  -- and if all of these are 0, nothing is selected
  none_selected : ((i : ℕ) → i < m → bit_at w i ≡ 0) → bit_and w ones ≡ 0
  none_selected none = same_from_bits (bit_and w ones) 0 (λ i. elim (cases_lt i m) [
    | inl h ↦ omega (arith, bit_at_and w ones i, none i h, bit_at-zero i)
    | inr h ↦ omega (arith, bit_at_and w ones i, ap (λ n. bit_at n i) are, bit_at_ones_above m i h, bit_at-zero i)
  ])

  pub selected_equal : (n : ℕ) (xs ys : List ℕ) → n ≤ length xs → 16 ≤ length ys → m ≤ 16
      → ((i : ℕ) → i < 16 → (bit_at w i ≡ 0) ↔ (get_or xs i 0 ≡ get_or ys i 0))
      → (nat_eq n m && nat_eq (bit_and w ones) 0) ≡ bytes_eq (take n xs) (take m ys)
  selected_equal n xs ys left_in right_in few same =
      same_from_decides (nat_eq n m && nat_eq (bit_and w ones) 0) (bytes_eq (take n xs) (take m ys)) (
        λ t. let both = and_parts (nat_eq n m) (nat_eq (bit_and w ones) 0) t in
            whole ((Decides-eqb n m).0 both.0) ((Decides-eqb (bit_and w ones) 0).0 both.1),
        λ e. and_from (nat_eq n m) (nat_eq (bit_and w ones) 0) ((Decides-eqb n m).1 (one_length e))
            ((Decides-eqb (bit_and w ones) 0).1 (none_selected (λ i lt. (same i (omega (arith, lt, few))).1 (at e i lt)))),
      )
      (bytes_eq-Decides (take n xs) (take m ys))
    where
      one_length : take n xs ≡ take m ys → n ≡ m
      one_length e = omega (arith, left_in, right_in, few, length-take n xs, length-take m ys, ap (λ (zs : List ℕ). length zs) e)

      at : take n xs ≡ take m ys → (i : ℕ) → i < m → get_or xs i 0 ≡ get_or ys i 0
      at e i lt = sym (get_or-take n xs i 0 (omega (arith, lt, one_length e))) ∙ ap (λ (zs : List ℕ). get_or zs i 0) e ∙ get_or-take m ys i 0 lt

      whole : n ≡ m → bit_and w ones ≡ 0 → take n xs ≡ take m ys
      whole long none =
          same_number_lists (take n xs) (take m ys) (omega (arith, left_in, right_in, few, long, length-take n xs, length-take m ys))
          (λ i lt.
          let below : i < n = omega (arith, lt, left_in, length-take n xs) in
          let inside : i < m = omega (arith, below, long) in
          get_or-take n xs i 0 below ∙ (same i (omega (arith, inside, few))).0 (selected none i inside) ∙ sym (get_or-take m ys i 0 inside))
