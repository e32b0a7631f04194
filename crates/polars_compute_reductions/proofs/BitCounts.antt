-- The counts of bits that numbers have, as counts of lists.
use Rattle.std.proofs.Common.{◌≡◌, ◌<◌, ◌≤◌, ◌+◌, ◌-◌, ◌*◌, ◌^◌, ◌∙◌, ℕ, zero, suc, Bool, true, false, not, cond, eqb, List, [], ◌∷◌, ◌++◌, length, map, reverse, get_or, refl, sym, ap, ap₂, arith, count_by}
use Rattle.std.specs.Int.{Width, w8, w16, w32, w64, w128, bit_at, bit_not, leading_ones, leading_zeros, trailing_ones, trailing_zeros, count_zeros}
use Rattle.std.specs.Int.Count.{count_leading_zeros, count_trailing_zeros, leading_unique, trailing_of_zero}
use Rattle.std.specs.Int.RustNames.{count_ones}
use Rattle.std.specs.List.{prefix_len, range_with_len}
use Rattle.std.specs.Simd.Lanes.{mask_l}
use Rattle.std.proofs.lemmas.Bool.{cases_lt}
use Rattle.std.proofs.lemmas.Bool.Decides.{nat_tests}
use Rattle.std.proofs.lemmas.List.{get_or-map, length-map, length-reverse, map-append, reverse-append}
use Rattle.std.proofs.lemmas.List.Folds.{prefix_len-append}
use Rattle.std.proofs.lemmas.List.FromFn.{get_or-map-range_with_len, length-range_with_len}
use Rattle.std.proofs.lemmas.Nat.Bits.{bit_at-lt, bit_at_not}
use Rattle.std.proofs.lemmas.Simd.{bit_mask_l, leading_from_mask_l, mask_l-lt, ones-mask_l, trailing_mask_l}
use Rattle.num_traits.specs.Laws.{bit_len}
use Rattle.polars_arrays_words.specs.Bits.{first_of, is_bit}
use Rattle.polars_compute_reductions.specs.BitLaws.{same_bits}
use mathlib.Core.Logic.{⊎_elim}
use mir.Val.{bits}

-- ---- the number that bits make

mask_bit : (bs : List Bool) (i : ℕ) → is_bit (mask_l bs) i ≡ get_or bs i false
mask_bit bs i = ap (λ d. eqb d 1) (bit_mask_l bs i) ∙ digit (get_or bs i false)
  where
    digit : (b : Bool) → eqb (cond b 1 0) 1 ≡ b
    digit true = refl
    digit false = refl

length-bits : (f : ℕ → Bool) (n : ℕ) → length (first_of f n) ≡ n
length-bits f n = length-map (range_with_len 0 n) f ∙ length-range_with_len 0 n

bit-of-first : (f : ℕ → Bool) (n i : ℕ) → i < n → get_or (first_of f n) i false ≡ f i
bit-of-first f n i h = get_or-map-range_with_len f 0 n i i false h (omega arith)

-- bits of which each is p of the bit of a number make another number
made : (p : Bool → Bool) (width x y : ℕ) → y < 2 ^ width → ((i : ℕ) → i < width → is_bit y i ≡ p (is_bit x i)) → mask_l (map p (first_of (is_bit x) width)) ≡ y
made p width x y small same =
    let long : length (map p (first_of (is_bit x) width)) ≡ width = length-map (first_of (is_bit x) width) p ∙ length-bits (is_bit x) width in
    let below : mask_l (map p (first_of (is_bit x) width)) < 2 ^ width = rw long at (mask_l-lt (map p (first_of (is_bit x) width))) in
    same_bits width _ y below small
    (λ i h.
    mask_bit (map p (first_of (is_bit x) width)) i
    ∙ get_or-map p (first_of (is_bit x) width) i false false (omega (arith, length-bits (is_bit x) width))
    ∙ ap p (bit-of-first (is_bit x) width i h)
    ∙ sym (same i h))

-- ---- runs

prefix_same : (p q : Bool → Bool) → ((b : Bool) → p b ≡ q b) → (bs : List Bool) → prefix_len p bs ≡ prefix_len q bs
prefix_same p q same [] = refl
prefix_same p q same (b ∷ bs) = ap₂ (λ t n. cond t (1 + n) 0) (same b) (prefix_same p q same bs)

prefix-map : (p q : Bool → Bool) (bs : List Bool) → prefix_len q (map p bs) ≡ prefix_len (λ b. q (p b)) bs
prefix-map p q [] = refl
prefix-map p q (b ∷ bs) = ap (λ n. cond (q (p b)) (1 + n) 0) (prefix-map p q bs)

map-reverse : (p : Bool → Bool) (bs : List Bool) → map p (reverse bs) ≡ reverse (map p bs)
map-reverse p [] = refl
map-reverse p (b ∷ bs) =
    ap (map p) (reverse-append (b ∷ []) bs)
    ∙ map-append p (reverse bs) (b ∷ [])
    ∙ ap (λ front. front ++ p b ∷ []) (map-reverse p bs)
    ∙ sym (reverse-append (p b ∷ []) (map p bs))

trailing_of : (p : Bool → Bool) (bs : List Bool) (k : ℕ) → length bs ≡ k → count_trailing_zeros k (mask_l (map p bs)) ≡ prefix_len (λ b. not (p b)) bs
trailing_of p bs k long =
    ⊎_elim (λ some. trailing_mask_l p k bs (omega (arith, long)) some)
    (λ none.
    let empty : mask_l (map p bs) ≡ 0 = omega (arith, none) in
    ap (count_trailing_zeros k) empty ∙ trailing_of_zero k ∙ sym long ∙ sym (leading_from_mask_l p bs empty))
    (cases_lt 0 (mask_l (map p bs)))

-- how many bits stand up to the highest that is 1
record Top (bs : List Bool) : Type 0 where
  size : ℕ
  sum : prefix_len not (reverse bs) + size ≡ length bs
  below : mask_l bs < 2 ^ size
  above : 2 ^ size ≤ 2 * mask_l bs + 1

eq_test : (a b : ℕ) → a ≡ b → eqb a b ≡ true
eq_test a b e = grind (arith, nat_tests)

ne_test : (a b : ℕ) → a < b → eqb a b ≡ false
ne_test a b e = grind (arith, nat_tests)

run-more : (b : Bool) (bs : List Bool) → prefix_len not (reverse (b ∷ bs)) ≡ cond (eqb (prefix_len not (reverse bs)) (length bs)) (length bs + cond (not b) 1 0) (prefix_len not (reverse bs))
run-more b bs =
    ap (prefix_len not) (reverse-append (b ∷ []) bs)
    ∙ prefix_len-append not (reverse bs) (b ∷ [])
    ∙ ap (λ n. cond (eqb (prefix_len not (reverse bs)) n) (n + cond (not b) 1 0) (prefix_len not (reverse bs))) (length-reverse bs)

run-all : (b : Bool) (bs : List Bool) → prefix_len not (reverse bs) ≡ length bs → prefix_len not (reverse (b ∷ bs)) ≡ length bs + cond (not b) 1 0
run-all b bs e =
    run-more b bs ∙ ap (λ t. cond t (length bs + cond (not b) 1 0) (prefix_len not (reverse bs))) (eq_test (prefix_len not (reverse bs)) (length bs) e)

run-some : (b : Bool) (bs : List Bool) → prefix_len not (reverse bs) < length bs → prefix_len not (reverse (b ∷ bs)) ≡ prefix_len not (reverse bs)
run-some b bs h =
    run-more b bs ∙ ap (λ t. cond t (length bs + cond (not b) 1 0) (prefix_len not (reverse bs))) (ne_test (prefix_len not (reverse bs)) (length bs) h)

top-none : (b : Bool) (bs : List Bool) → prefix_len not (reverse bs) ≡ length bs → mask_l bs ≡ 0 → Top (b ∷ bs)
top-none true bs e none = record {
  size = 1;
  sum = omega (arith, run-all true bs e);
  below = omega (arith, none);
  above = omega (arith, none);
}
top-none false bs e none = record {
  size = 0;
  sum = omega (arith, run-all false bs e);
  below = omega (arith, none);
  above = omega (arith, none);
}

top-some : (b : Bool) (bs : List Bool) (n : ℕ) → prefix_len not (reverse bs) + suc n ≡ length bs → mask_l bs < 2 ^ suc n → 2 ^ suc n ≤ 2 * mask_l bs + 1 → Top (b ∷ bs)
top-some true bs n e below above =
    let run = run-some true bs (omega (arith, e)) in
    record {
      size = suc (suc n);
      sum = omega (arith, run, e);
      below = omega (arith, below);
      above = omega (arith, above);
    }
top-some false bs n e below above =
    let run = run-some false bs (omega (arith, e)) in
    record {
      size = suc (suc n);
      sum = omega (arith, run, e);
      below = omega (arith, below);
      above = omega (arith, above);
    }

top-more : (b : Bool) (bs : List Bool) (size : ℕ) → prefix_len not (reverse bs) + size ≡ length bs → mask_l bs < 2 ^ size → 2 ^ size ≤ 2 * mask_l bs + 1 → Top (b ∷ bs)
top-more b bs zero e below above = top-none b bs (omega (arith, e)) (omega (arith, below))
top-more b bs (suc n) e below above = top-some b bs n e below above

top : (bs : List Bool) → Top bs
top [] = record {
  size = 0;
  sum = refl;
  below = omega arith;
  above = omega arith;
}
top (b ∷ bs) = let t = top bs in top-more b bs t.size t.sum t.below t.above

leading_of : (p : Bool → Bool) (bs : List Bool) (k : ℕ) → length bs ≡ k → count_leading_zeros k (mask_l (map p bs)) ≡ prefix_len (λ b. not (p b)) (reverse bs)
leading_of p bs k long =
    let t = top (map p bs) in
    sym (leading_unique k (mask_l (map p bs)) (prefix_len not (reverse (map p bs))) t.size (t.sum ∙ length-map bs p ∙ long) t.below t.above)
    ∙ ap (prefix_len not) (sym (map-reverse p bs))
    ∙ prefix-map p not (reverse bs)

-- ---- numbers of a width

bits_are : (w : Width) → bits w ≡ bit_len w
bits_are w8 = refl
bits_are w16 = refl
bits_are w32 = refl
bits_are w64 = refl
bits_are w128 = refl

test_not : (x : ℕ) → x < 2 → eqb (1 - x) 1 ≡ not (eqb x 1)
test_not x p = grind (arith, nat_tests)

double_not : (b : Bool) → not (not b) ≡ b
double_not true = refl
double_not false = refl

module _ (w : Width) (x : ℕ) (small : x < 2 ^ bit_len w) where
  small_bits : x < 2 ^ bits w
  small_bits = rw (bits_are w) small

  same_number : mask_l (map (λ b. b) (first_of (is_bit x) (bit_len w))) ≡ x
  same_number = made (λ b. b) (bit_len w) x x small (λ i h. refl)

  opposite_small : bit_not w x < 2 ^ bit_len w
  opposite_small = rw (sym (bits_are w)) (omega (arith, small_bits))

  opposite : mask_l (map not (first_of (is_bit x) (bit_len w))) ≡ bit_not w x
  opposite =
      made not (bit_len w) x (bit_not w x) opposite_small
      (λ i h. ap (λ d. eqb d 1) (bit_at_not w x i small_bits (rw (bits_are w) h)) ∙ test_not (bit_at x i) (bit_at-lt x i))

  long : length (first_of (is_bit x) (bit_len w)) ≡ bits w
  long = length-bits (is_bit x) (bit_len w) ∙ sym (bits_are w)

  pub ones-are : count_ones x ≡ count_by (λ b. b) (first_of (is_bit x) (bit_len w))
  ones-are = ap count_ones (sym same_number) ∙ ones-mask_l (λ b. b) (first_of (is_bit x) (bit_len w))

  pub zeros-are : count_zeros w x ≡ count_by not (first_of (is_bit x) (bit_len w))
  zeros-are = ap count_ones (sym opposite) ∙ ones-mask_l not (first_of (is_bit x) (bit_len w))

  pub trailing_zeros-are : trailing_zeros w x ≡ prefix_len not (first_of (is_bit x) (bit_len w))
  trailing_zeros-are = ap (count_trailing_zeros (bits w)) (sym same_number) ∙ trailing_of (λ b. b) (first_of (is_bit x) (bit_len w)) (bits w) long

  pub trailing_ones-are : trailing_ones w x ≡ prefix_len (λ b. b) (first_of (is_bit x) (bit_len w))
  trailing_ones-are =
      ap (count_trailing_zeros (bits w)) (sym opposite)
      ∙ trailing_of not (first_of (is_bit x) (bit_len w)) (bits w) long
      ∙ prefix_same (λ b. not (not b)) (λ b. b) double_not (first_of (is_bit x) (bit_len w))

  pub leading_zeros-are : leading_zeros w x ≡ prefix_len not (reverse (first_of (is_bit x) (bit_len w)))
  leading_zeros-are = ap (count_leading_zeros (bits w)) (sym same_number) ∙ leading_of (λ b. b) (first_of (is_bit x) (bit_len w)) (bits w) long

  pub leading_ones-are : leading_ones w x ≡ prefix_len (λ b. b) (reverse (first_of (is_bit x) (bit_len w)))
  leading_ones-are =
      ap (count_leading_zeros (bits w)) (sym opposite)
      ∙ leading_of not (first_of (is_bit x) (bit_len w)) (bits w) long
      ∙ prefix_same (λ b. not (not b)) (λ b. b) double_not (reverse (first_of (is_bit x) (bit_len w)))
