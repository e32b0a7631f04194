-- Closeness, from the sums that are compared.
use Rattle.std.proofs.Common.{◌≡◌, ℕ, ◌+◌, ◌-◌, ◌*◌, ◌^◌, ◌<◌, ◌≤◌, ◌⊎◌, ⊎_elim, inl, inr, Bool, true, false, cond, ◌&&◌, ◌||◌, leb, max, arith, ap, sym, ◌∙◌, refl}
use Rattle.std.proofs.Math.Nat.{max-eq_left, max-eq_right, mul-le-mul_left, mul-le-mul_right, eq_of_mul-eq-mul_right}
use Rattle.std.proofs.lemmas.Bool.{cases_lt, le-leb, leb-true}
use Rattle.std.proofs.lemmas.Bool.Decides.{nat_tests}
use Rattle.std.proofs.lemmas.Nat.{pow-add}
use Rattle.std.specs.Bool.{beq}
use Rattle.json_decimals.specs.Decimals.{Decimal, AreEqual}
use Rattle.json_tolerances.specs.Closeness.{size_beside, gap, distance, is_within, is_within_part, is_close}
use Rattle.json_tolerances.specs.declared.closeness.Margin.{Margin}
use Rattle.json_tolerances.specs.declared.closeness.Margin.TheVariants.{Absolute, Relative}
use Rattle.json_tolerances.proofs.TermLemmas.{tens_positive}

-- ---- sizes

regroup : (c x y z : ℕ) → c * (x * (y * z)) ≡ c * (x * y) * z
regroup c x y z = omega arith

-- tens more
pub with_tens : (c up down more : ℕ) → c * 10 ^ (up + (down + more)) ≡ c * 10 ^ (up + down) * 10 ^ more
with_tens c up down more =
    ap (λ x. c * x) (pow-add 10 up (down + more) ∙ ap (λ x. 10 ^ up * x) (pow-add 10 down more)) ∙ regroup c (10 ^ up) (10 ^ down) (10 ^ more) ∙ ap (λ x. c * x * 10 ^ more) (sym (pow-add 10 up down))

gap_times_up : (m n k : ℕ) → m ≤ n → gap m n * k ≡ gap (m * k) (n * k)
gap_times_up m n k h =
    let d : ℕ = n - m in
    let far : gap m n ≡ d = omega arith in
    let split : n ≡ m + d = omega arith in
    let times : n * k ≡ m * k + d * k = ap (λ x. x * k) split ∙ omega arith in
    ap (λ x. x * k) far ∙ omega arith

gap_turned : (m n : ℕ) → gap m n ≡ gap n m
gap_turned m n = omega arith

gap_times : (m n k : ℕ) → gap m n * k ≡ gap (m * k) (n * k)
gap_times m n k =
    ⊎_elim (λ (l : m < n). gap_times_up m n k (omega arith)) (λ (g : n ≤ m). ap (λ x. x * k) (gap_turned m n) ∙ gap_times_up n m k g ∙ gap_turned (n * k) (m * k)) (cases_lt m n)

-- ---- what lies within

within_gap : (x y w : ℕ) → (leb x (y + w) && leb y (x + w)) ≡ leb (gap x y) w
within_gap x y w = grind (arith, nat_tests)

within_gap_up : (x y v w : ℕ) → x ≤ y → (leb x (y + v) && leb y (x + w)) ≡ leb (gap x y) w
within_gap_up x y v w h = grind (arith, nat_tests)

within_gap_down : (x y v w : ℕ) → y ≤ x → (leb x (y + v) && leb y (x + w)) ≡ leb (gap x y) v
within_gap_down x y v w h = grind (arith, nat_tests)

within_either_up : (s v w : ℕ) → v ≤ w → (leb s v || leb s w) ≡ leb s w
within_either_up s v w h = grind (arith, nat_tests)

within_either_down : (s v w : ℕ) → w ≤ v → (leb s v || leb s w) ≡ leb s v
within_either_down s v w h = grind (arith, nat_tests)

part_of : (k p m : ℕ) → k * p * m ≡ k * (m * p)
part_of k p m = omega arith

ordered : (k p m n : ℕ) → m ≤ n → k * (m * p) ≤ k * (n * p)
ordered k p m n h = mul-le-mul_left k (mul-le-mul_right p h)

part_gap : (m n k p d : ℕ) → (leb (m * d) (n * d + k * (m * p)) && leb (n * d) (m * d + k * (n * p))) ≡ leb (gap m n * d) (k * p * max m n)
part_gap m n k p d =
    ⊎_elim
    (λ (l : m < n). (let up : m ≤ n = omega arith in
    within_gap_up (m * d) (n * d) (k * (m * p)) (k * (n * p)) (mul-le-mul_right d up) ∙ (λ i. leb (sym (gap_times m n d) i) (sym (ap (λ x. k * p * x) (max-eq_right up) ∙ part_of k p n) i))))
    (λ (g : n ≤ m). within_gap_down (m * d) (n * d) (k * (m * p)) (k * (n * p)) (mul-le-mul_right d g) ∙ (λ i. leb (sym (gap_times m n d) i) (sym (ap (λ x. k * p * x) (max-eq_left g) ∙ part_of k p m) i)))
    (cases_lt m n)

part_sum : (m n k p d : ℕ) → (leb (m * d + n * d) (k * (m * p)) || leb (m * d + n * d) (k * (n * p))) ≡ leb ((m + n) * d) (k * p * max m n)
part_sum m n k p d =
    let sum : m * d + n * d ≡ (m + n) * d = omega arith in
    ⊎_elim
    (λ (l : m < n). (let up : m ≤ n = omega arith in
    within_either_up (m * d + n * d) (k * (m * p)) (k * (n * p)) (ordered k p m n up) ∙ (λ i. leb (sum i) (sym (ap (λ x. k * p * x) (max-eq_right up) ∙ part_of k p n) i))))
    (λ (g : n ≤ m). within_either_down (m * d + n * d) (k * (m * p)) (k * (n * p)) (ordered k p n m g) ∙ (λ i. leb (sum i) (sym (ap (λ x. k * p * x) (max-eq_left g) ∙ part_of k p m) i)))
    (cases_lt m n)

-- ---- two numbers and a bound

abbrev apart : Bool → ℕ → ℕ → ℕ
apart same m n = cond same (gap m n) (m + n)

-- the first of two numbers, times the tens that divide the other and the bound
abbrev pub shared : Decimal → Decimal → Decimal → ℕ
shared t a b = a.coefficient * 10 ^ (a.up + (b.down + t.down))

-- and times those that divide the other and multiply the bound
abbrev pub part : Decimal → Decimal → Decimal → ℕ
part t a b = a.coefficient * 10 ^ (a.up + (b.down + t.up))

pub within_same : (t a b : Decimal) (x y z : ℕ) → beq a.negative b.negative ≡ true → x ≡ shared t a b → y ≡ shared t b a → z ≡ 10 ^ (t.up + a.down + b.down)
    → (leb x (y + t.coefficient * z) && leb y (x + t.coefficient * z)) ≡ is_within t a b
within_same t a b x y z e p q r =
    let d : ℕ = 10 ^ t.down in
    let m : ℕ = size_beside a b in
    let n : ℕ = size_beside b a in
    let one : x ≡ m * d = p ∙ with_tens a.coefficient a.up b.down t.down in
    let two : y ≡ n * d = q ∙ with_tens b.coefficient b.up a.down t.down in
    within_gap x y (t.coefficient * z) ∙ (λ i. leb (gap (one i) (two i)) (t.coefficient * r i)) ∙ ap (λ v. leb v (t.coefficient * 10 ^ (t.up + a.down + b.down))) (sym (gap_times m n d) ∙ ap (λ s. apart s m n * d) (sym e))

pub within_other : (t a b : Decimal) (x y z : ℕ) → beq a.negative b.negative ≡ false → x ≡ shared t a b → y ≡ shared t b a → z ≡ 10 ^ (t.up + a.down + b.down)
    → leb (x + y) (t.coefficient * z) ≡ is_within t a b
within_other t a b x y z e p q r =
    let d : ℕ = 10 ^ t.down in
    let m : ℕ = size_beside a b in
    let n : ℕ = size_beside b a in
    let one : x ≡ m * d = p ∙ with_tens a.coefficient a.up b.down t.down in
    let two : y ≡ n * d = q ∙ with_tens b.coefficient b.up a.down t.down in
    let sum : m * d + n * d ≡ (m + n) * d = omega arith in
    (λ i. leb (one i + two i) (t.coefficient * r i)) ∙ ap (λ v. leb v (t.coefficient * 10 ^ (t.up + a.down + b.down))) (sum ∙ ap (λ s. apart s m n * d) (sym e))

pub part_same : (t a b : Decimal) (x y v w : ℕ) → beq a.negative b.negative ≡ true → x ≡ shared t a b → y ≡ shared t b a → v ≡ part t a b → w ≡ part t b a
    → (leb x (y + t.coefficient * v) && leb y (x + t.coefficient * w)) ≡ is_within_part t a b
part_same t a b x y v w e p q r s =
    let d : ℕ = 10 ^ t.down in
    let u : ℕ = 10 ^ t.up in
    let m : ℕ = size_beside a b in
    let n : ℕ = size_beside b a in
    let one : x ≡ m * d = p ∙ with_tens a.coefficient a.up b.down t.down in
    let two : y ≡ n * d = q ∙ with_tens b.coefficient b.up a.down t.down in
    let three : v ≡ m * u = r ∙ with_tens a.coefficient a.up b.down t.up in
    let four : w ≡ n * u = s ∙ with_tens b.coefficient b.up a.down t.up in
    (λ i. leb (one i) (two i + t.coefficient * three i) && leb (two i) (one i + t.coefficient * four i)) ∙ part_gap m n t.coefficient u d ∙ ap (λ c. leb (apart c m n * d) (t.coefficient * u * max m n)) (sym e)

pub part_other : (t a b : Decimal) (x y v w : ℕ) → beq a.negative b.negative ≡ false → x ≡ shared t a b → y ≡ shared t b a → v ≡ part t a b → w ≡ part t b a
    → (leb (x + y) (t.coefficient * v) || leb (x + y) (t.coefficient * w)) ≡ is_within_part t a b
part_other t a b x y v w e p q r s =
    let d : ℕ = 10 ^ t.down in
    let u : ℕ = 10 ^ t.up in
    let m : ℕ = size_beside a b in
    let n : ℕ = size_beside b a in
    let one : x ≡ m * d = p ∙ with_tens a.coefficient a.up b.down t.down in
    let two : y ≡ n * d = q ∙ with_tens b.coefficient b.up a.down t.down in
    let three : v ≡ m * u = r ∙ with_tens a.coefficient a.up b.down t.up in
    let four : w ≡ n * u = s ∙ with_tens b.coefficient b.up a.down t.up in
    (λ i. leb (one i + two i) (t.coefficient * three i) || leb (one i + two i) (t.coefficient * four i)) ∙ part_sum m n t.coefficient u d ∙ ap (λ c. leb (apart c m n * d) (t.coefficient * u * max m n)) (sym e)

-- a size, once its tens are known
pub sized : (c u d e n m x : ℕ) → x ≡ c * 10 ^ (u + (d + e)) → d ≡ n → e ≡ m → x ≡ c * 10 ^ (u + (n + m))
sized c u d e n m x h p q = h ∙ (λ i. c * 10 ^ (u + (p i + q i)))

-- ---- laws

beq_turned : (p q : Bool) → beq p q ≡ beq q p
beq_turned true true = refl
beq_turned true false = refl
beq_turned false true = refl
beq_turned false false = refl

beq_is : (p q : Bool) → beq p q ≡ true → p ≡ q
beq_is true true e = refl
beq_is true false e = cc
beq_is false true e = cc
beq_is false false e = refl

beq_same : (p q : Bool) → p ≡ q → beq p q ≡ true
beq_same true true e = refl
beq_same true false e = cc
beq_same false true e = cc
beq_same false false e = refl

distance_turned : (a b : Decimal) → distance a b ≡ distance b a
distance_turned a b =
    let m : ℕ = size_beside a b in
    let n : ℕ = size_beside b a in
    let sum : m + n ≡ n + m = omega arith in
    (λ i. cond (beq_turned a.negative b.negative i) (gap_turned m n i) (sum i))

max_turned : (m n : ℕ) → max m n ≡ max n m
max_turned m n = omega arith

downs_turned : (a b c : ℕ) → a + b + c ≡ a + c + b
downs_turned a b c = omega arith

pub symmetric : (m : Margin) (a b : Decimal) → is_close m a b ≡ is_close m b a
symmetric (Absolute t) a b = λ i. leb (distance_turned a b i * 10 ^ t.down) (t.coefficient * 10 ^ (downs_turned t.up a.down b.down i))
symmetric (Relative t) a b = λ i. leb (distance_turned a b i * 10 ^ t.down) (t.coefficient * 10 ^ t.up * max_turned (size_beside a b) (size_beside b a) i)

no_size : (c x : ℕ) → c ≡ 0 → c * x ≡ 0
no_size c x e = ap (λ y. y * x) e ∙ omega arith

none_apart : (same : Bool) (m n : ℕ) → m ≡ n → (m ≡ 0) ⊎ (same ≡ true) → apart same m n ≡ 0
none_apart true m n e h = omega arith
none_apart false m n e (inl z) = omega arith
none_apart false m n e (inr s) = cc

no_distance : (a b : Decimal) → AreEqual a b → distance a b ≡ 0
no_distance a b e =
    none_apart (beq a.negative b.negative) (size_beside a b) (size_beside b a) e.size
    (⊎_elim (λ (z : a.coefficient ≡ 0). inl (no_size a.coefficient (10 ^ (a.up + b.down)) z)) (λ (s : a.negative ≡ b.negative). inr (beq_same a.negative b.negative s)) e.sign)

nothing_within : (d k w : ℕ) → d ≡ 0 → leb (d * k) w ≡ true
nothing_within d k w e = le-leb (d * k) w (omega (arith, no_size d k e))

pub equal_close : (m : Margin) (a b : Decimal) → AreEqual a b → is_close m a b ≡ true
equal_close (Absolute t) a b e = nothing_within (distance a b) (10 ^ t.down) (t.coefficient * 10 ^ (t.up + a.down + b.down)) (no_distance a b e)
equal_close (Relative t) a b e = nothing_within (distance a b) (10 ^ t.down) (t.coefficient * 10 ^ t.up * max (size_beside a b) (size_beside b a)) (no_distance a b e)

no_factor : (c x : ℕ) → 0 < x → c * x ≡ 0 → c ≡ 0
no_factor c x h e = eq_of_mul-eq-mul_right x h c 0 (e ∙ omega arith)

from_none_apart : (a b : Decimal) (same : Bool) → beq a.negative b.negative ≡ same → apart same (size_beside a b) (size_beside b a) ≡ 0 → AreEqual a b
from_none_apart a b true s e = record { size = omega arith; sign = inr (beq_is a.negative b.negative s) }
from_none_apart a b false s e = record { size = omega arith; sign = inl (no_factor a.coefficient (10 ^ (a.up + b.down)) (tens_positive (a.up + b.down)) (omega arith)) }

pub only_equal : (t a b : Decimal) → t.coefficient ≡ 0 → is_within t a b ≡ true → AreEqual a b
only_equal t a b z h =
    let w : ℕ = 10 ^ (t.up + a.down + b.down) in
    let less = leb-true (distance a b * 10 ^ t.down) (t.coefficient * w) h in
    let none : distance a b * 10 ^ t.down ≡ 0 = omega (arith, less, no_size t.coefficient w z) in
    from_none_apart a b (beq a.negative b.negative) refl (no_factor (distance a b) (10 ^ t.down) (tens_positive t.down) none)
