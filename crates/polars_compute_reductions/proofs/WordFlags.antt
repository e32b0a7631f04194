-- Flags of the rows of a word.
use Rattle.std.proofs.Common.{◌≡◌, ◌<◌, ◌+◌, ◌*◌, ◌/◌, ◌%◌, ◌^◌, ◌∙◌, ℕ, zero, suc, [], ◌∷◌, not, eqb, get_or, refl, ap, arith, bit_and}
use Rattle.std.specs.Int.{w64, to_le_bytes, bit_at}
use Rattle.std.proofs.lemmas.Nat.{pow_pos, mod_below}
use Rattle.std.proofs.lemmas.Nat.Bits.{and_pow}
use Rattle.std.proofs.lemmas.Bool.Decides.{nat_tests}
use Rattle.polars_arrays_words.specs.Bits.{first_of, is_bit}
use Rattle.polars_arrays_words.proofs.Firsts.{first_same}
use Rattle.polars_arrays_words.proofs.SingleBits.{bit_at-mod, bit_at-shr}

byte-of : (word b : ℕ) → b < 8 → get_or (to_le_bytes w64 word) b 0 ≡ word / 2 ^ (8 * b) % 256
byte-of word zero lt = omega arith
byte-of word (suc zero) lt = refl
byte-of word (suc (suc zero)) lt = refl
byte-of word (suc (suc (suc zero))) lt = refl
byte-of word (suc (suc (suc (suc zero)))) lt = refl
byte-of word (suc (suc (suc (suc (suc zero))))) lt = refl
byte-of word (suc (suc (suc (suc (suc (suc zero)))))) lt = refl
byte-of word (suc (suc (suc (suc (suc (suc (suc zero))))))) lt = refl
byte-of word (suc (suc (suc (suc (suc (suc (suc (suc b)))))))) lt = absurd (omega arith)

tested : (d p : ℕ) → d < 2 → 0 < p → not (eqb (d * p) 0) ≡ eqb d 1
tested d p below some = grind (arith, nat_tests)

flag : (word b k : ℕ) → b < 8 → k < 8 → not (eqb (bit_and (get_or (to_le_bytes w64 word) b 0) (2 ^ k)) 0) ≡ is_bit word (8 * b + k)
flag word b k few within =
    let byte : ℕ = word / 2 ^ (8 * b) % 256 in
    ap (λ x. not (eqb (bit_and x (2 ^ k)) 0)) (byte-of word b few)
    ∙ ap (λ x. not (eqb x 0)) (and_pow byte k)
    ∙ tested (bit_at byte k) (2 ^ k) (mod_below (byte / 2 ^ k) 2 (omega arith)) (pow_pos k)
    ∙ ap (λ d. eqb d 1) (bit_at-mod (word / 2 ^ (8 * b)) 8 k within ∙ bit_at-shr word (8 * b) k)

-- each row's bit, read from its byte
pub flags : (word : ℕ) → first_of (λ j. not (eqb (bit_and (get_or (to_le_bytes w64 word) (j / 8) 0) (2 ^ (j % 8))) 0)) 64 ≡ first_of (is_bit word) 64
flags word =
    first_same (λ j. not (eqb (bit_and (get_or (to_le_bytes w64 word) (j / 8) 0) (2 ^ (j % 8))) 0)) (is_bit word) 64
    (λ j lt. let place : 8 * (j / 8) + j % 8 ≡ j = omega arith in flag word (j / 8) (j % 8) (omega arith) (omega arith) ∙ ap (is_bit word) place)

-- a number of which one bit is that of the word
kept_bit : (x word k i : ℕ) → bit_at x k ≡ bit_at word i → not (eqb (bit_and x (2 ^ k)) 0) ≡ is_bit word i
kept_bit x word k i e =
    ap (λ y. not (eqb y 0)) (and_pow x k)
    ∙ tested (bit_at x k) (2 ^ k) (mod_below (x / 2 ^ k) 2 (omega arith)) (pow_pos k)
    ∙ ap (λ d. eqb d 1) e

half_flag : (word h k : ℕ) → h < 2 → k < 32 → not (eqb (bit_and (get_or (word % 2 ^ 32 ∷ word / 2 ^ 32 ∷ []) h 0) (2 ^ k)) 0) ≡ is_bit word (32 * h + k)
half_flag word zero k few within =
    let place : k ≡ 32 * 0 + k = omega arith in kept_bit (word % 2 ^ 32) word k (32 * 0 + k) (bit_at-mod word 32 k within ∙ ap (bit_at word) place)
half_flag word (suc zero) k few within = kept_bit (word / 2 ^ 32) word k (32 + k) (bit_at-shr word 32 k)
half_flag word (suc (suc h)) k few within = absurd (omega arith)

-- each row's bit, read from its half
pub half_flags : (word : ℕ) → first_of (λ j. not (eqb (bit_and (get_or (word % 2 ^ 32 ∷ word / 2 ^ 32 ∷ []) (j / 32) 0) (2 ^ (j % 32))) 0)) 64 ≡ first_of (is_bit word) 64
half_flags word =
    first_same (λ j. not (eqb (bit_and (get_or (word % 2 ^ 32 ∷ word / 2 ^ 32 ∷ []) (j / 32) 0) (2 ^ (j % 32))) 0)) (is_bit word) 64
    (λ j lt. let place : 32 * (j / 32) + j % 32 ≡ j = omega arith in half_flag word (j / 32) (j % 32) (omega arith) (omega arith) ∙ ap (is_bit word) place)

quarter_flag : (word q k : ℕ) → q < 4 → k < 16 → not (eqb (bit_and (get_or (word % 2 ^ 16 ∷ word / 2 ^ 16 % 2 ^ 16 ∷ word / 2 ^ 32 % 2 ^ 16 ∷ word / 2 ^ 48 ∷ []) q 0) (2 ^ k)) 0) ≡ is_bit word (16 * q + k)
quarter_flag word zero k few within =
    let place : k ≡ 16 * 0 + k = omega arith in kept_bit (word % 2 ^ 16) word k (16 * 0 + k) (bit_at-mod word 16 k within ∙ ap (bit_at word) place)
quarter_flag word (suc zero) k few within =
    kept_bit (word / 2 ^ 16 % 2 ^ 16) word k (16 + k) (bit_at-mod (word / 2 ^ 16) 16 k within ∙ bit_at-shr word 16 k)
quarter_flag word (suc (suc zero)) k few within =
    kept_bit (word / 2 ^ 32 % 2 ^ 16) word k (32 + k) (bit_at-mod (word / 2 ^ 32) 16 k within ∙ bit_at-shr word 32 k)
quarter_flag word (suc (suc (suc zero))) k few within = kept_bit (word / 2 ^ 48) word k (48 + k) (bit_at-shr word 48 k)
quarter_flag word (suc (suc (suc (suc q)))) k few within = absurd (omega arith)

-- each row's bit, read from its quarter
pub quarter_flags : (word : ℕ) → first_of (λ j. not (eqb (bit_and (get_or (word % 2 ^ 16 ∷ word / 2 ^ 16 % 2 ^ 16 ∷ word / 2 ^ 32 % 2 ^ 16 ∷ word / 2 ^ 48 ∷ []) (j / 16) 0) (2 ^ (j % 16))) 0)) 64 ≡ first_of (is_bit word) 64
quarter_flags word =
    first_same (λ j. not (eqb (bit_and (get_or (word % 2 ^ 16 ∷ word / 2 ^ 16 % 2 ^ 16 ∷ word / 2 ^ 32 % 2 ^ 16 ∷ word / 2 ^ 48 ∷ []) (j / 16) 0) (2 ^ (j % 16))) 0)) (is_bit word) 64
    (λ j lt. let place : 16 * (j / 16) + j % 16 ≡ j = omega arith in quarter_flag word (j / 16) (j % 16) (omega arith) (omega arith) ∙ ap (is_bit word) place)
