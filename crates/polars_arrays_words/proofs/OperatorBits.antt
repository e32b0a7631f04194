-- What the operators on words do to one bit.
use Rattle.std.proofs.Common.{◌≡◌, ℕ, ◌+◌, ◌-◌, ◌%◌, ◌^◌, ◌<◌, Bool, true, false, eqb, not, ◌&&◌, ◌||◌, refl, ap, ap₂, ◌∙◌, arith, bit_and, bit_or, bit_xor, min, max}
use Rattle.std.proofs.lemmas.Bool.Decides.{nat_tests}
use Rattle.std.proofs.lemmas.Nat.{or_lt, xor_lt}
use Rattle.std.proofs.Math.Pow.{ones_sub-lt}
use Rattle.std.specs.Int.Bits.{and_lt}
use Rattle.std.proofs.lemmas.Nat.Bits.{bit_at_and, bit_at_or, bit_at_xor, bit_at_not, bit_at-lt}
use Rattle.std.specs.Int.{bit_at, w64}
use Rattle.polars_arrays_words.specs.Bits.{is_bit}
use Rattle.polars_arrays_words.specs.Logic.{xor, xnor, and_not, or_not, merged_eq, merged_ne}

test_and : (x y : ℕ) → x < 2 → y < 2 → eqb (min x y) 1 ≡ (eqb x 1 && eqb y 1)
test_and x y p q = grind (arith, nat_tests)

pub is_bit_and : (x y i : ℕ) → is_bit (bit_and x y) i ≡ (is_bit x i && is_bit y i)
is_bit_and x y i = ap (λ b. eqb b 1) (bit_at_and x y i) ∙ test_and (bit_at x i) (bit_at y i) (bit_at-lt x i) (bit_at-lt y i)

test_or : (x y : ℕ) → x < 2 → y < 2 → eqb (max x y) 1 ≡ (eqb x 1 || eqb y 1)
test_or x y p q = grind (arith, nat_tests)

pub is_bit_or : (x y i : ℕ) → is_bit (bit_or x y) i ≡ (is_bit x i || is_bit y i)
is_bit_or x y i = ap (λ b. eqb b 1) (bit_at_or x y i) ∙ test_or (bit_at x i) (bit_at y i) (bit_at-lt x i) (bit_at-lt y i)

test_xor : (x y : ℕ) → x < 2 → y < 2 → eqb ((x + y) % 2) 1 ≡ xor (eqb x 1) (eqb y 1)
test_xor x y p q = grind (arith, nat_tests)

pub is_bit_xor : (x y i : ℕ) → is_bit (bit_xor x y) i ≡ xor (is_bit x i) (is_bit y i)
is_bit_xor x y i = ap (λ b. eqb b 1) (bit_at_xor x y i) ∙ test_xor (bit_at x i) (bit_at y i) (bit_at-lt x i) (bit_at-lt y i)

test_not : (x : ℕ) → x < 2 → eqb (1 - x) 1 ≡ not (eqb x 1)
test_not x p = grind (arith, nat_tests)

pub is_bit_not : (x i : ℕ) → x < 2 ^ 64 → i < 64 → is_bit (2 ^ 64 - 1 - x) i ≡ not (is_bit x i)
is_bit_not x i fits lt = ap (λ b. eqb b 1) (bit_at_not w64 x i fits lt) ∙ test_not (bit_at x i) (bit_at-lt x i)

-- operators on a word and the opposite of another one

xnor_formula : (a b : Bool) → xor a (not b) ≡ xnor a b
xnor_formula true true = refl
xnor_formula true false = refl
xnor_formula false true = refl
xnor_formula false false = refl

pub is_bit_xnor : (x y i : ℕ) → y < 2 ^ 64 → i < 64 → is_bit (bit_xor x (2 ^ 64 - 1 - y)) i ≡ xnor (is_bit x i) (is_bit y i)
is_bit_xnor x y i fits lt =
    is_bit_xor x (2 ^ 64 - 1 - y) i ∙ ap (xor (is_bit x i)) (is_bit_not y i fits lt) ∙ xnor_formula (is_bit x i) (is_bit y i)

pub is_bit-and_not : (x y i : ℕ) → y < 2 ^ 64 → i < 64 → is_bit (bit_and x (2 ^ 64 - 1 - y)) i ≡ and_not (is_bit x i) (is_bit y i)
is_bit-and_not x y i fits lt = is_bit_and x (2 ^ 64 - 1 - y) i ∙ ap (λ b. is_bit x i && b) (is_bit_not y i fits lt)

pub is_bit-or_not : (x y i : ℕ) → y < 2 ^ 64 → i < 64 → is_bit (bit_or x (2 ^ 64 - 1 - y)) i ≡ or_not (is_bit x i) (is_bit y i)
is_bit-or_not x y i fits lt = is_bit_or x (2 ^ 64 - 1 - y) i ∙ ap (λ b. is_bit x i || b) (is_bit_not y i fits lt)

-- the code's formulas for the merges, at one bit
eq_formula : (q l r : Bool) → not ((l && not q) || xor l r) ≡ merged_eq q l r
eq_formula true true true = refl
eq_formula true true false = refl
eq_formula true false true = refl
eq_formula true false false = refl
eq_formula false true true = refl
eq_formula false true false = refl
eq_formula false false true = refl
eq_formula false false false = refl

ne_formula : (q l r : Bool) → ((q && l) || xor l r) ≡ merged_ne q l r
ne_formula true true true = refl
ne_formula true true false = refl
ne_formula true false true = refl
ne_formula true false false = refl
ne_formula false true true = refl
ne_formula false true false = refl
ne_formula false false true = refl
ne_formula false false false = refl

pub is_bit-merged_eq :
    (q l r i : ℕ) → q < 2 ^ 64 → l < 2 ^ 64 → r < 2 ^ 64 → i < 64 →
    is_bit (2 ^ 64 - 1 - bit_or (bit_and l (2 ^ 64 - 1 - q)) (bit_xor l r)) i ≡ merged_eq (is_bit q i) (is_bit l i) (is_bit r i)
is_bit-merged_eq q l r i fits_q fits_l fits_r lt =
    let present : ℕ = bit_and l (2 ^ 64 - 1 - q) in
    let fits : bit_or present (bit_xor l r) < 2 ^ 64 = or_lt 64 present (bit_xor l r) (and_lt 64 l (2 ^ 64 - 1 - q) fits_l (ones_sub-lt 64 q)) (xor_lt 64 l r fits_l fits_r) in
    is_bit_not (bit_or present (bit_xor l r)) i fits lt
    ∙ ap not
    (is_bit_or present (bit_xor l r) i
    ∙ ap₂ ◌||◌ (is_bit_and l (2 ^ 64 - 1 - q) i ∙ ap (λ b. is_bit l i && b) (is_bit_not q i fits_q lt)) (is_bit_xor l r i))
    ∙ eq_formula (is_bit q i) (is_bit l i) (is_bit r i)

pub is_bit-merged_ne : (q l r i : ℕ) → is_bit (bit_or (bit_and q l) (bit_xor l r)) i ≡ merged_ne (is_bit q i) (is_bit l i) (is_bit r i)
is_bit-merged_ne q l r i =
    is_bit_or (bit_and q l) (bit_xor l r) i
    ∙ ap₂ ◌||◌ (is_bit_and q l i) (is_bit_xor l r i)
    ∙ ne_formula (is_bit q i) (is_bit l i) (is_bit r i)
