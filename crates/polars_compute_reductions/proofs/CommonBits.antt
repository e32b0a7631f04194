-- The bits that all words of a run have.
use Rattle.std.proofs.Common.{◌≡◌, ◌<◌, ◌+◌, ◌*◌, ◌%◌, ◌∙◌, ℕ, suc, Bool, true, false}
use Rattle.std.proofs.Common.{◌&&◌, List, [], ◌∷◌, length, take, drop, get_or, refl, sym, ap, ap₂}
use Rattle.std.proofs.Common.{arith, bit_and}
use Rattle.std.specs.List.{list_all}
use Rattle.std.proofs.lemmas.Bool.{cases_lt}
use Rattle.std.proofs.lemmas.List.{get_or-drop, get_or-take}
use mathlib.Core.Logic.{⊎_elim}
use Rattle.polars_arrays_words.specs.Bits.{first_of, is_bit}
use Rattle.polars_arrays_words.proofs.Firsts.{get_or-first}
use Rattle.polars_arrays_words.proofs.OperatorBits.{is_bit_and}
use Rattle.polars_arrays_words.proofs.WrittenBits.{ones_bit}

first-true : (x y : Bool) → (x && y) ≡ true → x ≡ true
first-true true y e = refl
first-true false y e = e

second-true : (x y : Bool) → (x && y) ≡ true → y ≡ true
second-true true y e = e
second-true false y e = cc

-- a word more
pub common_more :
    (bits : List Bool) (common word next k p : ℕ) → next ≡ bit_and common word
    → first_of (is_bit word) 64 ≡ take 64 (drop (64 * k) bits) →
    ((q : ℕ) → q < 64 * k → is_bit common (q % 64) ≡ true → get_or bits q false ≡ true)
    → p < 64 * (k + 1) → is_bit next (p % 64) ≡ true → get_or bits p false ≡ true
common_more bits common word next k p is read before lt e =
    let both : (is_bit common (p % 64) && is_bit word (p % 64))
    ≡ true = sym (is_bit_and common word (p % 64)) ∙ sym (ap (λ w. is_bit w (p % 64)) is) ∙
    e in
    ⊎_elim
    (λ below. before p below (first-true (is_bit common (p % 64)) (is_bit word (p % 64)) both))
    (λ past.
    let few : p % 64 < 64 = omega arith in
    let place : 64 * k + p % 64 ≡ p = omega arith in
    sym (ap (λ q. get_or bits q false) place)
    ∙ sym (get_or-take 64 (drop (64 * k) bits) (p % 64) false few ∙ get_or-drop (64 * k) bits
    (p % 64) false)
    ∙ sym (ap (λ bs. get_or bs (p % 64) false) read)
    ∙ get_or-first (is_bit word) 64 (p % 64) false few
    ∙ second-true (is_bit common (p % 64)) (is_bit word (p % 64)) both)
    (cases_lt p (64 * k))

all-places : (bits : List Bool) → ((p : ℕ) → p < length bits → get_or bits p false ≡ true)
    → list_all (λ b. b) bits ≡ true
all-places [] each = refl
all-places (bit ∷ bits) each =
    ap₂ ◌&&◌ (each 0 (omega arith)) (all-places bits (λ p lt. each (suc p) (omega arith)))

-- where the words have all bits in common, all are 1
pub all-common :
    (bits : List Bool) (n common : ℕ) → length bits ≡ n → common ≡ 18446744073709551615
    → ((p : ℕ) → p < n → is_bit common (p % 64) ≡ true → get_or bits p false ≡ true) →
    list_all (λ b. b) bits ≡ true
all-common bits n common long ones each =
    all-places bits
    (λ p lt. each p (omega (arith, long))
    (ap (λ w. is_bit w (p % 64)) ones ∙ ones_bit (p % 64) (omega arith)))
