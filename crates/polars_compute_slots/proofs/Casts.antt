-- How far a number lies above another.
use Rattle.std.proofs.Common.{◌≡◌, ◌<◌, ◌≤◌, ◌+◌, ◌-◌, ◌^◌, ℕ, pos, neg_ℤ, ◌+ℤ◌, ◌≤ℤ◌, ltb, true, ap, ◌∙◌, sym, subst, ap₂, arith, rules, Fits, w64}
use Rattle.std.specs.Prelude.{ℤ, ◌-ℤ◌, ◌<ℤ◌, unsigned_abs}
use Rattle.std.specs.Int.{w128}
use Rattle.std.specs.Int.Signed.{non_neg, pos-nat_abs, yes_non_neg}
use Rattle.std.proofs.Math.IntN.{nat_abs}
use Rattle.std.proofs.lemmas.Bool.Decides.{Decides-ltb}
use Rattle.std.proofs.lemmas.Int.{ints, to_z-of_z}
use Rattle.polars_compute_slots.specs.Slots.{AreNumbers, place}
use Rattle.polars_compute_slots.specs.State.{RangeFits}
use Rattle.polars_compute_slots.proofs.Marked.{place-is}
use mir.Val.{SFits, of_z, to_z}
use lib.Dec.{T}

fits : (a : ℤ) → neg_ℤ (pos (2 ^ 65)) ≤ℤ a → a ≤ℤ pos (2 ^ 65) → SFits w128 a
fits a from to = search (rules, ints)

-- two numbers between -2^64 and 2^64, the second one greater
pub difference_fits : (a b : ℤ) (n : ℕ) → (neg_ℤ (pos (2 ^ 64)) ≤ℤ a) × (a ≤ℤ pos (2 ^ 64)) → (neg_ℤ (pos (2 ^ 64)) ≤ℤ b) × (b ≤ℤ pos (2 ^ 64)) → b ≤ℤ a → a <ℤ (b +ℤ pos n) → n ≤ 2 ^ 64 →
    T (non_neg (to_z w128 (of_z w128 (to_z w128 (of_z w128 a) -ℤ to_z w128 (of_z w128 b))))) × Fits w64 (nat_abs (to_z w128 (of_z w128 (to_z w128 (of_z w128 a) -ℤ to_z w128 (of_z w128 b)))))
difference_fits a b n na nb from to few =
    let fa : SFits w128 a = fits a (omega (arith, ints, na.0)) (omega (arith, ints, na.1)) in
    let fb : SFits w128 b = fits b (omega (arith, ints, nb.0)) (omega (arith, ints, nb.1)) in
    let fd : SFits w128 (a -ℤ b) = fits (a -ℤ b) (omega (arith, ints)) (omega (arith, ints)) in
    let ea : to_z w128 (of_z w128 a) ≡ a = to_z-of_z w128 a fa in
    let eb : to_z w128 (of_z w128 b) ≡ b = to_z-of_z w128 b fb in
    let ed : to_z w128 (of_z w128 (to_z w128 (of_z w128 a) -ℤ to_z w128 (of_z w128 b))) ≡ a -ℤ b = ap₂ (λ (x y : ℤ). to_z w128 (of_z w128 (x -ℤ y))) ea eb ∙ to_z-of_z w128 (a -ℤ b) fd in
    let above : pos 0 ≤ℤ (a -ℤ b) = omega (arith, ints) in
    let whole = pos-nat_abs (a -ℤ b) (yes_non_neg above) in
    let below : nat_abs (a -ℤ b) < 2 ^ 64 = omega (arith, ints, whole) in
    let P : ℤ → Type 0 = λ z. T (non_neg z) × Fits w64 (nat_abs z) in
    subst P (sym ed) (yes_non_neg above, search (rules, below))

-- the difference is computed as it is
pub difference-is : (a b m n : ℤ) → (neg_ℤ (pos (2 ^ 64)) ≤ℤ a) × (a ≤ℤ pos (2 ^ 64)) → (neg_ℤ (pos (2 ^ 64)) ≤ℤ b) × (b ≤ℤ pos (2 ^ 64)) → a ≡ m → b ≡ n → to_z w128 (of_z w128 (to_z w128 (of_z w128 a) -ℤ to_z w128 (of_z w128 b))) ≡ m -ℤ n
difference-is a b m n na nb is_a is_b =
    let fa : SFits w128 a = fits a (omega (arith, ints, na.0)) (omega (arith, ints, na.1)) in
    let fb : SFits w128 b = fits b (omega (arith, ints, nb.0)) (omega (arith, ints, nb.1)) in
    let fd : SFits w128 (a -ℤ b) = fits (a -ℤ b) (omega (arith, ints)) (omega (arith, ints)) in
    ap₂ (λ (x y : ℤ). to_z w128 (of_z w128 (x -ℤ y))) (to_z-of_z w128 a fa) (to_z-of_z w128 b fb)
    ∙ to_z-of_z w128 (a -ℤ b) fd
    ∙ ap₂ (λ (x y : ℤ). x -ℤ y) is_a is_b

-- a number is one of a range where it lies so far above the least
pub range-test : (m n : ℤ) (slot count : ℕ) (z : ℤ) → z ≡ m -ℤ n → pos 0 ≤ℤ z → slot ≡ nat_abs z → (ltb slot count ≡ true → (n ≤ℤ m) × (m <ℤ (n +ℤ pos count))) × ((n ≤ℤ m) × (m <ℤ (n +ℤ pos count)) → ltb slot count ≡ true)
range-test m n slot count z is above far =
    let whole = pos-nat_abs z (yes_non_neg above) in
    let slot_is : pos slot ≡ m -ℤ n = ap pos far ∙ whole ∙ is in
    (λ yes. (let below = (Decides-ltb slot count).0 yes in (omega (arith, ints), omega (arith, ints))), λ h. (let below : slot < count = omega (arith, ints, h.0, h.1) in (Decides-ltb slot count).1 below))

pub range-miss : (m n : ℤ) (count : ℕ) (z : ℤ) → z ≡ m -ℤ n → count < 2 ^ 64 → ((pos 0 ≤ℤ z) × (z <ℤ pos (2 ^ 64)) → ⊥) → (n ≤ℤ m) × (m <ℤ (n +ℤ pos count)) → ⊥
range-miss m n count z is few miss h = miss (omega (arith, ints, h.0), omega (arith, ints, h.1))

-- the numbers from n to m can have a slot each if they are in order and few enough
pub fits-test : (m n : ℤ) (slot : ℕ) (z : ℤ) → z ≡ m -ℤ n → pos 0 ≤ℤ z → slot ≡ nat_abs z → (ltb slot (2 ^ 64 - 1 - 1) ≡ true → RangeFits n m) × (RangeFits n m → ltb slot (2 ^ 64 - 1 - 1) ≡ true)
fits-test m n slot z is above far =
    let whole = pos-nat_abs z (yes_non_neg above) in
    let slot_is : pos slot ≡ m -ℤ n = ap pos far ∙ whole ∙ is in
    (λ yes. (let below = (Decides-ltb slot (2 ^ 64 - 1 - 1)).0 yes in (omega (arith, ints), omega (arith, ints))), λ h. (let below : slot < 2 ^ 64 - 1 - 1 = omega (arith, ints, h.0, h.1) in (Decides-ltb slot (2 ^ 64 - 1 - 1)).1 below))

pub fits-miss : (m n : ℤ) (z : ℤ) → z ≡ m -ℤ n → ((pos 0 ≤ℤ z) × (z <ℤ pos (2 ^ 64)) → ⊥) → RangeFits n m → ⊥
fits-miss m n z is miss h = miss (omega (arith, ints, h.0), omega (arith, ints, h.0, h.1))

-- the numbers from n to m are numbers of their type, and as many as this
pub between-numbers : (low high m n : ℤ) (distance : ℕ) → low ≤ℤ n → m ≤ℤ high → RangeFits n m → distance ≡ place n m → AreNumbers low high n (distance + 1)
between-numbers low high m n distance from to fit is =
    let far = place-is n m fit.0 in
    let distance_is : pos distance ≡ m -ℤ n = ap pos is ∙ far in
    record { from = from; to = omega (arith, ints); few = omega (arith, ints, fit.1) }

pub between-count : (m n : ℤ) (distance : ℕ) → n ≤ℤ m → distance ≡ place n m → distance + 1 ≡ unsigned_abs (m -ℤ n +ℤ pos 1)
between-count m n distance order is =
    let far = place-is n m order in
    let more : pos 0 ≤ℤ (m -ℤ n +ℤ pos 1) = omega (arith, ints) in
    let whole = pos-nat_abs (m -ℤ n +ℤ pos 1) (yes_non_neg more) in
    let distance_is : pos distance ≡ m -ℤ n = ap pos is ∙ far in
    omega (arith, ints)

-- at most 127 numbers have at most 128 slots
pub few-slots : (m n : ℤ) (count : ℕ) → n ≤ℤ m → count ≡ unsigned_abs (m -ℤ n +ℤ pos 1) → (m -ℤ n +ℤ pos 2) ≤ℤ pos 128 → count + 1 ≤ 128
few-slots m n count order is few =
    let more : pos 0 ≤ℤ (m -ℤ n +ℤ pos 1) = omega (arith, ints) in
    let whole = pos-nat_abs (m -ℤ n +ℤ pos 1) (yes_non_neg more) in
    let count_is : pos count ≡ m -ℤ n +ℤ pos 1 = ap pos is ∙ whole in
    omega (arith, ints)

-- a number between -2^64 and 2^64 is passed on as it is
pub whole-is : (a m : ℤ) → (neg_ℤ (pos (2 ^ 64)) ≤ℤ a) × (a ≤ℤ pos (2 ^ 64)) → a ≡ m → to_z w128 (of_z w128 a) ≡ m
whole-is a m na is = to_z-of_z w128 a (fits a (omega (arith, ints, na.0)) (omega (arith, ints, na.1))) ∙ is
