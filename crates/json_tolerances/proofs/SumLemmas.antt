-- The first digits of a number and of a sum decide.
use Rattle.std.proofs.Common.{◌≡◌, ℕ, suc, ◌+◌, ◌-◌, ◌*◌, ◌/◌, ◌%◌, ◌^◌, ◌<◌, ◌≤◌, arith, ap, sym, ◌∙◌, subst, Ordering}
use Rattle.std.proofs.Math.Nat.{pow-suc, pow-zero, div-one, div-div-eq-div-mul, mul-le-mul_left, mul-le-mul_right}
use Rattle.std.proofs.lemmas.Cmp.{by_ranked, ranked}
use Rattle.std.proofs.lemmas.Nat.{div-add-mod', mod_below}
use Rattle.std.specs.Cmp.{nat_cmp_is}
use Rattle.std.specs.Ordering.{MatchOrdering, nat_cmp}
use Rattle.json_tolerances.proofs.TermLemmas.{tens_positive, none_above}

-- ---- one digit more

pub one_more : (n p : ℕ) → n / 10 ^ p ≡ n / 10 ^ (p + 1) * 10 + n / 10 ^ p % 10
one_more n p =
    let up : p + 1 ≡ suc p = omega arith in
    let cut : n / 10 ^ (p + 1) ≡ n / 10 ^ p / 10 = ap (λ k. n / 10 ^ k) up ∙ ap (λ x. n / x) (pow-suc 10 p) ∙ sym (div-div-eq-div-mul n (10 ^ p) 10) in
    let parts : n / 10 ^ p ≡ n / 10 ^ p / 10 * 10 + n / 10 ^ p % 10 = omega arith in
    parts ∙ ap (λ x. x * 10 + n / 10 ^ p % 10) (sym cut)

balance_more : (x y z a b c dx dy dz by_x by_y by_z over under : ℕ)
    → a ≡ x * 10 + dx → b ≡ y * 10 + dy → c ≡ z * 10 + dz → by_x * x + under ≡ by_y * y + by_z * z + over
    → let more = over * 10 + by_x * dx in let less = under * 10 + by_y * dy + by_z * dz in
    by_x * a + (less - more) ≡ by_y * b + by_z * c + (more - less)
balance_more x y z a b c dx dy dz by_x by_y by_z over under p q r e =
    let left : by_x * a ≡ by_x * x * 10 + by_x * dx = ap (λ v. by_x * v) p ∙ omega arith in
    let one : by_y * b ≡ by_y * y * 10 + by_y * dy = ap (λ v. by_y * v) q ∙ omega arith in
    let two : by_z * c ≡ by_z * z * 10 + by_z * dz = ap (λ v. by_z * v) r ∙ omega arith in
    omega arith

-- the balance at the next place, once its digits are read
pub stepped : (x y z place dx dy dz by_x by_y by_z over under more less : ℕ) → 0 < place
    → dx ≡ x / 10 ^ (place - 1) % 10 → dy ≡ y / 10 ^ (place - 1) % 10 → dz ≡ z / 10 ^ (place - 1) % 10
    → more ≡ (over * 10 + by_x * dx) - (under * 10 + by_y * dy + by_z * dz) → less ≡ (under * 10 + by_y * dy + by_z * dz) - (over * 10 + by_x * dx)
    → by_x * (x / 10 ^ place) + under ≡ by_y * (y / 10 ^ place) + by_z * (z / 10 ^ place) + over
    → by_x * (x / 10 ^ (place - 1)) + less ≡ by_y * (y / 10 ^ (place - 1)) + by_z * (z / 10 ^ (place - 1)) + more
stepped x y z place dx dy dz by_x by_y by_z over under more less some p q r a b e =
    let up : place ≡ place - 1 + 1 = omega arith in
    let one : (n d : ℕ) → d ≡ n / 10 ^ (place - 1) % 10 → n / 10 ^ (place - 1) ≡ n / 10 ^ place * 10 + d =
    λ n d h. one_more n (place - 1) ∙ (λ i. n / 10 ^ (sym up i) * 10 + sym h i) in
    let next = balance_more (x / 10 ^ place) (y / 10 ^ place) (z / 10 ^ place) _ _ _ dx dy dz by_x by_y by_z over under (one x dx p) (one y dy q) (one z dz r) e in
    (λ i. by_x * (x / 10 ^ (place - 1)) + b i) ∙ next ∙ (λ i. by_y * (y / 10 ^ (place - 1)) + by_z * (z / 10 ^ (place - 1)) + sym a i)

jump : (x y z a b c m by_x by_y by_z : ℕ) → a ≡ x * m → b ≡ y * m → c ≡ z * m → by_x * x ≡ by_y * y + by_z * z → by_x * a ≡ by_y * b + by_z * c
jump x y z a b c m by_x by_y by_z p q r e =
    let left : by_x * a ≡ by_x * x * m = ap (λ v. by_x * v) p ∙ omega arith in
    let one : by_y * b ≡ by_y * y * m = ap (λ v. by_y * v) q ∙ omega arith in
    let two : by_z * c ≡ by_z * z * m = ap (λ v. by_z * v) r ∙ omega arith in
    let both : (by_y * y + by_z * z) * m ≡ by_y * y * m + by_z * z * m = omega arith in
    left ∙ ap (λ v. v * m) e ∙ both ∙ (λ i. sym one i + sym two i)

-- zeros leave even what is even
pub even_below : (x y z p q by_x by_y by_z : ℕ)
    → x / 10 ^ q ≡ x / 10 ^ p * 10 ^ (p - q) → y / 10 ^ q ≡ y / 10 ^ p * 10 ^ (p - q) → z / 10 ^ q ≡ z / 10 ^ p * 10 ^ (p - q)
    → by_x * (x / 10 ^ p) + 0 ≡ by_y * (y / 10 ^ p) + by_z * (z / 10 ^ p) + 0 → by_x * (x / 10 ^ q) + 0 ≡ by_y * (y / 10 ^ q) + by_z * (z / 10 ^ q) + 0
even_below x y z p q by_x by_y by_z f g h e =
    let even : by_x * (x / 10 ^ p) ≡ by_y * (y / 10 ^ p) + by_z * (z / 10 ^ p) = omega arith in
    omega (arith, jump (x / 10 ^ p) (y / 10 ^ p) (z / 10 ^ p) (x / 10 ^ q) (y / 10 ^ q) (z / 10 ^ q) (10 ^ (p - q)) by_x by_y by_z f g h even)

-- ---- what the rest cannot undo

from_front : (by n a m : ℕ) → a * m ≤ n → by * a * m ≤ by * n
from_front by n a m h = let e : by * a * m ≡ by * (a * m) = omega arith in omega (arith, e, mul-le-mul_left by h)

to_front : (by n a m : ℕ) → n ≤ (a + 1) * m → by * n ≤ (by * a + by) * m
to_front by n a m h = let e : by * ((a + 1) * m) ≡ (by * a + by) * m = omega arith in omega (arith, e, mul-le-mul_left by h)

front : (n p : ℕ) → (n / 10 ^ p * 10 ^ p ≤ n) × (n ≤ (n / 10 ^ p + 1) * 10 ^ p)
front n p =
    let parts = div-add-mod' n (10 ^ p) in
    let rest = mod_below n (10 ^ p) (tens_positive p) in
    let e : (n / 10 ^ p + 1) * 10 ^ p ≡ n / 10 ^ p * 10 ^ p + 10 ^ p = omega arith in
    (omega arith, omega arith)

pub stays_over : (x y z p by_x by_y by_z over under : ℕ) → by_x * (x / 10 ^ p) + under ≡ by_y * (y / 10 ^ p) + by_z * (z / 10 ^ p) + over
    → by_y + by_z < over → under ≡ 0 → by_y * y + by_z * z < by_x * x
stays_over x y z p by_x by_y by_z over under e h n =
    let m : ℕ = 10 ^ p in
    let some = tens_positive p in
    let left = from_front by_x x (x / m) m (front x p).0 in
    let one = to_front by_y y (y / m) m (front y p).1 in
    let two = to_front by_z z (z / m) m (front z p).1 in
    let more : by_y * (y / m) + by_y + (by_z * (z / m) + by_z) + 1 ≤ by_x * (x / m) = omega arith in
    let times = mul-le-mul_right m more in
    let parts : (by_y * (y / m) + by_y + (by_z * (z / m) + by_z) + 1) * m ≡ (by_y * (y / m) + by_y) * m + (by_z * (z / m) + by_z) * m + m = omega arith in
    omega arith

pub stays_under : (x y z p by_x by_y by_z over under : ℕ) → by_x * (x / 10 ^ p) + under ≡ by_y * (y / 10 ^ p) + by_z * (z / 10 ^ p) + over
    → by_x < under → over ≡ 0 → by_x * x < by_y * y + by_z * z
stays_under x y z p by_x by_y by_z over under e h n =
    let m : ℕ = 10 ^ p in
    let some = tens_positive p in
    let left = to_front by_x x (x / m) m (front x p).1 in
    let one = from_front by_y y (y / m) m (front y p).0 in
    let two = from_front by_z z (z / m) m (front z p).0 in
    let more : by_x * (x / m) + by_x + 1 ≤ by_y * (y / m) + by_z * (z / m) = omega arith in
    let times = mul-le-mul_right m more in
    let parts : (by_x * (x / m) + by_x + 1) * m ≡ (by_x * (x / m) + by_x) * m + m = omega arith in
    let sum : (by_y * (y / m) + by_z * (z / m)) * m ≡ by_y * (y / m) * m + by_z * (z / m) * m = omega arith in
    omega arith

-- at the last place the balance is that of the numbers
pub last_balance : (x y z by_x by_y by_z over under : ℕ) → by_x * (x / 10 ^ 0) + under ≡ by_y * (y / 10 ^ 0) + by_z * (z / 10 ^ 0) + over
    → by_x * x + under ≡ by_y * y + by_z * z + over
last_balance x y z by_x by_y by_z over under e =
    let whole : (n : ℕ) → n / 10 ^ 0 ≡ n = λ n. ap (λ m. n / m) (pow-zero 10) ∙ div-one n in
    ap (λ v. by_x * v + under) (sym (whole x)) ∙ e ∙ (λ i. by_y * whole y i + by_z * whole z i + over)

-- above all digits there is nothing
pub begins_even : (x y z p by_x by_y by_z : ℕ) → x < 10 ^ p → y < 10 ^ p → z < 10 ^ p → by_x * (x / 10 ^ p) + 0 ≡ by_y * (y / 10 ^ p) + by_z * (z / 10 ^ p) + 0
begins_even x y z p by_x by_y by_z f g h =
    let left : by_x * (x / 10 ^ p) ≡ 0 = ap (λ v. by_x * v) (none_above x p f) ∙ omega arith in
    let one : by_y * (y / 10 ^ p) ≡ 0 = ap (λ v. by_y * v) (none_above y p g) ∙ omega arith in
    let two : by_z * (z / 10 ^ p) ≡ 0 = ap (λ v. by_z * v) (none_above z p h) ∙ omega arith in
    omega arith

-- the order of a number and a sum is that of what it is over and under it
pub order_of : (a b over under : ℕ) (r : Ordering) → a + under ≡ b + over → r ≡ nat_cmp over under → r ≡ nat_cmp a b
order_of a b over under r e h =
    by_ranked (over < under) (over ≡ under) (under < over) r (ranked over under r h)
    (λ is less. nat_cmp_is a b r (subst (λ (o : Ordering). MatchOrdering o (a < b) (a ≡ b) (b < a)) (sym is) (omega arith)))
    (λ is same. nat_cmp_is a b r (subst (λ (o : Ordering). MatchOrdering o (a < b) (a ≡ b) (b < a)) (sym is) (omega arith)))
    (λ is more. nat_cmp_is a b r (subst (λ (o : Ordering). MatchOrdering o (a < b) (a ≡ b) (b < a)) (sym is) (omega arith)))
