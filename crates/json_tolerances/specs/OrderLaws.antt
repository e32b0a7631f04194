-- Laws of the order of decimals.
use Rattle.std.proofs.Common.{◌≡◌, ℕ, ◌+◌, ◌*◌, ◌^◌, ◌<◌, ◌⊎◌, inl, inr, Bool, true, false, arith}
use Rattle.std.proofs.Common.{ap, sym, ◌∙◌, refl}
use Rattle.std.proofs.Math.Nat.{mul-lt-mul_of_pos_right, lt_of_mul-lt-mul_right, one-le-pow}
use Rattle.std.proofs.Math.Nat.{eq_of_mul-eq-mul_right}
use Rattle.std.proofs.lemmas.Bool.Decides.{Decides-ltb, same_from_decides}
use Rattle.std.proofs.lemmas.Nat.{pow-add}
use Rattle.std.specs.Prelude.{◌↔◌, nat_lt}
use Rattle.json_decimals.specs.Decimals.{Decimal, AreEqual}
use Rattle.json_tolerances.specs.Closeness.{size_beside}
use Rattle.json_tolerances.specs.Order.{decimal_less, signed_less}

-- if a is less than c, and b is not less than c, then a is less than b
abbrev pub LessPassesOn : Type 0
LessPassesOn = (a b c : Decimal) → decimal_less a c ≡ true → decimal_less b c ≡ false
    → decimal_less a b ≡ true

-- of two decimals at most one is less
abbrev pub LessIsOneWay : Type 0
LessIsOneWay = (a b : Decimal) → decimal_less a b ≡ true → decimal_less b a ≡ false

-- two decimals are equal if and only if neither is less than the other
abbrev pub EqualAreNotLess : Type 0
EqualAreNotLess = (a b : Decimal) → AreEqual a b
    ↔ ((decimal_less a b ≡ false) × (decimal_less b a ≡ false))

tens_positive : (n : ℕ) → 0 < 10 ^ n
tens_positive n = omega (arith, one-le-pow n 10 (omega arith))

below : (m n : ℕ) → nat_lt m n ≡ true → m < n
below m n h = (Decides-ltb m n).0 h

is_below : (m n : ℕ) → m < n → nat_lt m n ≡ true
is_below m n h = (Decides-ltb m n).1 h

not_below : (m n : ℕ) → nat_lt m n ≡ false → ¬ (m < n)
not_below m n h low = let both : true ≡ false = sym (is_below m n low) ∙ h in cc both

is_not_below : (m n : ℕ) → ¬ (m < n) → nat_lt m n ≡ false
is_not_below m n h = by (nat_lt m n) refl
  where
    by : (b : Bool) → nat_lt m n ≡ b → nat_lt m n ≡ false
    by true e = absurd (h (below m n e))
    by false e = e

scaled_below : (m n k : ℕ) → 0 < k → nat_lt (m * k) (n * k) ≡ nat_lt m n
scaled_below m n k some =
    same_from_decides {P = m < n} (nat_lt (m * k) (n * k)) (nat_lt m n) (
      (λ h. lt_of_mul-lt-mul_right k (below (m * k) (n * k) h)),
      (λ h. is_below (m * k) (n * k) (mul-lt-mul_of_pos_right h some)),
    ) (Decides-ltb m n)

scaled_some : (m n k : ℕ) → 0 < k → nat_lt 0 (m * k + n * k) ≡ nat_lt 0 (m + n)
scaled_some m n k some =
    let sum : m * k + n * k ≡ (m + n) * k = omega arith in
    let none : 0 * k ≡ 0 = omega arith in
    ap (λ v. nat_lt 0 v) sum ∙
    (ap (λ v. nat_lt v ((m + n) * k)) (sym none) ∙ scaled_below 0 (m + n) k some)

-- the order is the same where both sizes are multiplied
scaled : (s t : Bool) (m n k : ℕ) → 0 < k → signed_less s t (m * k) (n * k) ≡ signed_less s t m n
scaled true true m n k some = scaled_below n m k some
scaled true false m n k some = scaled_some m n k some
scaled false true m n k some = refl
scaled false false m n k some = scaled_below m n k some

-- the size of a decimal beside two others
abbrev beside_both : Decimal → Decimal → Decimal → ℕ
beside_both a b c = a.coefficient * 10 ^ (a.up + b.down + c.down)

size_scaled : (a b c : Decimal) → size_beside a b * 10 ^ c.down ≡ beside_both a b c
size_scaled a b c =
    let regroup : a.coefficient * 10 ^ (a.up + b.down) * 10 ^ c.down
    ≡ a.coefficient * (10 ^ (a.up + b.down) * 10 ^ c.down) = omega arith in
    regroup ∙ ap (λ x. a.coefficient * x) (sym (pow-add 10 (a.up + b.down) c.down))

turned : (a b c : Decimal) → beside_both a b c ≡ beside_both a c b
turned a b c = let e : a.up + b.down + c.down
    ≡ a.up + c.down + b.down = omega arith in ap (λ n. a.coefficient * 10 ^ n) e

-- the order of two decimals by their sizes beside a third one too
less_beside : (a b c : Decimal) → decimal_less a b
    ≡ signed_less a.negative b.negative (beside_both a b c) (beside_both b a c)
less_beside a b c =
    sym (scaled a.negative b.negative (size_beside a b) (size_beside b a) (10 ^ c.down)
    (tens_positive c.down))
    ∙ (ap (λ m. signed_less a.negative b.negative m (size_beside b a * 10 ^ c.down))
    (size_scaled a b c)
    ∙ ap (λ n. signed_less a.negative b.negative (beside_both a b c) n) (size_scaled b a c))

passes : (s t u : Bool) (l m n : ℕ) → signed_less s u l n ≡ true → signed_less t u m n ≡ false
    → signed_less s t l m ≡ true
passes true true true l m n h g =
    is_below m l (let one = below n l h in let two = not_below n m g in omega (arith, one, two))
passes true true false l m n h g =
    is_below m l
    (let one = below 0 (l + n) h in let two = not_below 0 (m + n) g in omega (arith, one, two))
passes true false true l m n h g = is_below 0 (l + m) (let one = below n l h in omega (arith, one))
passes true false false l m n h g =
    is_below 0 (l + m)
    (let one = below 0 (l + n) h in let two = not_below m n g in omega (arith, one, two))
passes false true true l m n h g = absurd (cc h)
passes false true false l m n h g =
    absurd (let one = below l n h in let two = not_below 0 (m + n) g in omega (arith, one, two))
passes false false true l m n h g = absurd (cc h)
passes false false false l m n h g =
    is_below l m (let one = below l n h in let two = not_below m n g in omega (arith, one, two))

pub less_passes_on : LessPassesOn
less_passes_on a b c h g =
    let first : signed_less a.negative c.negative (beside_both a b c) (beside_both c a b) ≡ true =
    ap (λ m. signed_less a.negative c.negative m (beside_both c a b)) (turned a b c) ∙
    (sym (less_beside a c b) ∙ h) in
    let same : beside_both c b a ≡ beside_both c a b = turned c b a in
    let second : signed_less b.negative c.negative (beside_both b a c) (beside_both c a b) ≡ false =
    ap (λ m. signed_less b.negative c.negative m (beside_both c a b)) (turned b a c)
    ∙ (ap (λ n. signed_less b.negative c.negative (beside_both b c a) n) (sym same) ∙
    (sym (less_beside b c a) ∙ g)) in
    less_beside a b c ∙ passes a.negative b.negative c.negative (beside_both a b c)
    (beside_both b a c) (beside_both c a b) first second

one_way : (s t : Bool) (m n : ℕ) → signed_less s t m n ≡ true → signed_less t s n m ≡ false
one_way true true m n h = is_not_below m n (λ low. let one = below n m h in omega (arith, low, one))
one_way true false m n h = refl
one_way false true m n h = absurd (cc h)
one_way false false m n h = is_not_below n m
    (λ low. let one = below m n h in omega (arith, low, one))

pub less_one_way : LessIsOneWay
less_one_way a b h = one_way a.negative b.negative (size_beside a b) (size_beside b a) h

-- a decimal of size zero is zero
zero_size : (a b : Decimal) → size_beside a b ≡ 0 → a.coefficient ≡ 0
zero_size a b e =
    eq_of_mul-eq-mul_right (10 ^ (a.up + b.down)) (tens_positive (a.up + b.down)) a.coefficient 0
    (let none : 0 * 10 ^ (a.up + b.down) ≡ 0 = omega arith in e ∙ sym none)

size_of_zero : (a b : Decimal) → a.coefficient ≡ 0 → size_beside a b ≡ 0
size_of_zero a b e = ap
    (λ c. c * 10 ^ (a.up + b.down)) e ∙
    (let none : 0 * 10 ^ (a.up + b.down) ≡ 0 = omega arith in none)

not_less : (s t : Bool) (m n : ℕ) → m ≡ n → (m ≡ 0) ⊎ (s ≡ t) → signed_less s t m n ≡ false
not_less true true m n e h = is_not_below n m (λ low. omega (arith, low, e))
not_less true false m n e (inl none) = is_not_below 0 (m + n) (λ low. omega (arith, low, e, none))
not_less true false m n e (inr same) = absurd (cc same)
not_less false true m n e h = refl
not_less false false m n e h = is_not_below m n (λ low. omega (arith, low, e))

neither : (s t : Bool) (m n : ℕ) → signed_less s t m n ≡ false → signed_less t s n m ≡ false
    → (m ≡ n) × ((m ≡ 0) ⊎ (s ≡ t))
neither true true m n h g =
    (let one = not_below n m h in let two = not_below m n g in omega (arith, one, two), inr refl)
neither true false m n h g = let one =
    not_below 0 (m + n) h in (omega (arith, one), inl (omega (arith, one)))
neither false true m n h g = let one =
    not_below 0 (n + m) g in (omega (arith, one), inl (omega (arith, one)))
neither false false m n h g =
    (let one = not_below m n h in let two = not_below n m g in omega (arith, one, two), inr refl)

sign_too : (a b : Decimal) → (a.coefficient ≡ 0) ⊎ (a.negative ≡ b.negative) → (size_beside a b ≡ 0)
    ⊎ (a.negative ≡ b.negative)
sign_too a b (inl none) = inl (size_of_zero a b none)
sign_too a b (inr same) = inr same

sign_back : (a b : Decimal) → (size_beside a b ≡ 0) ⊎ (a.negative ≡ b.negative)
    → (a.coefficient ≡ 0) ⊎ (a.negative ≡ b.negative)
sign_back a b (inl none) = inl (zero_size a b none)
sign_back a b (inr same) = inr same

turned_sign : (s t : Bool) (m n : ℕ) → m ≡ n → (m ≡ 0) ⊎ (s ≡ t) → (n ≡ 0) ⊎ (t ≡ s)
turned_sign s t m n e (inl none) = inl (sym e ∙ none)
turned_sign s t m n e (inr same) = inr (sym same)

pub equal_are_not_less : EqualAreNotLess
equal_are_not_less a b = (to, from)
  where
    to : AreEqual a b → (decimal_less a b ≡ false) × (decimal_less b a ≡ false)
    to e =
        let sign = sign_too a b e.sign in (
          not_less a.negative b.negative (size_beside a b) (size_beside b a) e.size sign,
          not_less
              b.negative a.negative (size_beside b a) (size_beside a b) (sym e.size)
              (turned_sign a.negative b.negative (size_beside a b) (size_beside b a) e.size sign),
        )

    from : (decimal_less a b ≡ false) × (decimal_less b a ≡ false) → AreEqual a b
    from h =
        let both = neither a.negative b.negative (size_beside a b) (size_beside b a) h.0 h.1 in
        record { size = both.0; sign = sign_back a b both.1 }
