-- Two words that lie one after the other, read from a bit of the first on.
use Rattle.std.proofs.Common.{◌≡◌, ℕ, ◌+◌, ◌*◌, ◌/◌, ◌%◌, ◌^◌, ◌<◌, eqb, [], ◌∷◌, sym, ap, ap₂, ◌∙◌, arith, bit_or, subst}
use Rattle.std.proofs.Math.Nat.{add_comm, mul_assoc, mul-add-div_right, mul-mod_left, add-zero}
use Rattle.std.proofs.lemmas.Nat.{pow-add, pow_pos, mod_below, mod-pow-add, field_of, or_shifted, or_comm, shr_below, shr_high, mod_low, shl-shr}
use Rattle.polars_arrays_words.specs.Bits.{is_bit, bit_of}
use Rattle.polars_arrays_words.proofs.SingleBits.{bit_at-mod, bit_at-shr, is_bit-joined}

-- the number of the two words, read at r
read_joined : (s r low high : ℕ) → low < 2 ^ (s + r) → (high * 2 ^ (s + r) + low) / 2 ^ r % 2 ^ (s + r) ≡ (high % 2 ^ r) * 2 ^ s + low / 2 ^ r
read_joined s r low high h =
    let n : ℕ = high * 2 ^ (s + r) + low in
    sym (field_of n (s + r) r)
    ∙ ap (λ e. n % 2 ^ e / 2 ^ r) (add_comm (s + r) r)
    ∙ ap (λ y. y / 2 ^ r) (mod-pow-add n r (s + r))
    ∙ ap₂ (λ a b. (a % 2 ^ r * 2 ^ (s + r) + b) / 2 ^ r) (shr_high high (s + r) low h) (mod_low high (s + r) low h)
    ∙ ap (λ y. (high % 2 ^ r * y + low) / 2 ^ r) (pow-add 2 s r)
    ∙ ap (λ y. (y + low) / 2 ^ r) (sym (mul_assoc (high % 2 ^ r) (2 ^ s) (2 ^ r)))
    ∙ mul-add-div_right (pow_pos r) (high % 2 ^ r * 2 ^ s) low

-- `high << s`
shifted : (s r high : ℕ) → (high * 2 ^ s) % 2 ^ (s + r) ≡ (high % 2 ^ r) * 2 ^ s
shifted s r high =
    ap (λ e. high * 2 ^ s % 2 ^ e) (add_comm s r)
    ∙ mod-pow-add (high * 2 ^ s) r s
    ∙ ap₂ (λ a b. a % 2 ^ r * 2 ^ s + b) (shl-shr high s) (mul-mod_left high (2 ^ s))
    ∙ add-zero (high % 2 ^ r * 2 ^ s)

-- `(low >> r) | (high << s)`
or_is : (s r low high : ℕ) → low < 2 ^ (s + r) → bit_or (low / 2 ^ r) ((high * 2 ^ s) % 2 ^ (s + r)) ≡ (high * 2 ^ (s + r) + low) / 2 ^ r % 2 ^ (s + r)
or_is s r low high h =
    or_comm (low / 2 ^ r) ((high * 2 ^ s) % 2 ^ (s + r))
    ∙ ap (λ y. bit_or y (low / 2 ^ r)) (shifted s r high)
    ∙ or_shifted (high % 2 ^ r) s (low / 2 ^ r) (shr_below low s r h)
    ∙ sym (read_joined s r low high h)

-- the same at a width of its own
join_is : (w s r low high : ℕ) → s + r ≡ w → low < 2 ^ w → bit_or (low / 2 ^ r) (high * 2 ^ s % 2 ^ w) ≡ (high * 2 ^ w + low) / 2 ^ r % 2 ^ w
join_is w s r low high e h =
    subst (λ (x : ℕ). low < 2 ^ x → bit_or (low / 2 ^ r) (high * 2 ^ s % 2 ^ x) ≡ (high * 2 ^ x + low) / 2 ^ r % 2 ^ x) e (or_is s r low high) h

-- its bits are those of the two words from bit r on
pub is_bit-join : (s r low high i : ℕ) → s + r ≡ 64 → 0 < s → low < 2 ^ 64 → i < 64 → is_bit (bit_or (low / 2 ^ r) (high * 2 ^ s % 2 ^ 64)) i ≡ bit_of (low ∷ high ∷ []) (r + i)
is_bit-join s r low high i e some fits lt =
    let within : r + i < 128 = omega arith in
    ap (λ y. is_bit y i) (join_is 64 s r low high e fits)
    ∙ ap (λ b. eqb b 1) (bit_at-mod ((high * 2 ^ 64 + low) / 2 ^ r) 64 i lt ∙ bit_at-shr (high * 2 ^ 64 + low) r i)
    ∙ is_bit-joined low high (r + i) fits within

-- `(low >> r) + (high << s)` is the same, since the two have no bit in common
sum_is : (s r low high : ℕ) → low < 2 ^ (s + r) → low / 2 ^ r + (high * 2 ^ s) % 2 ^ (s + r) ≡ (high * 2 ^ (s + r) + low) / 2 ^ r % 2 ^ (s + r)
sum_is s r low high h =
    add_comm (low / 2 ^ r) ((high * 2 ^ s) % 2 ^ (s + r))
    ∙ ap (λ y. y + low / 2 ^ r) (shifted s r high)
    ∙ sym (read_joined s r low high h)

-- the same at a width of its own
join_lanes_is : (w s r low high : ℕ) → s + r ≡ w → low < 2 ^ w → low / 2 ^ r + high * 2 ^ s % 2 ^ w ≡ (high * 2 ^ w + low) / 2 ^ r % 2 ^ w
join_lanes_is w s r low high e h =
    subst (λ (x : ℕ). low < 2 ^ x → low / 2 ^ r + high * 2 ^ s % 2 ^ x ≡ (high * 2 ^ x + low) / 2 ^ r % 2 ^ x) e (sum_is s r low high) h

-- and so it fits a word
pub join_lanes-fits : (s r low high : ℕ) → s + r ≡ 64 → low < 2 ^ 64 → low / 2 ^ r + high * 2 ^ s % 2 ^ 64 < 2 ^ 64
join_lanes-fits s r low high e h =
    subst (λ n. n < 2 ^ 64) (sym (join_lanes_is 64 s r low high e h)) (mod_below ((high * 2 ^ 64 + low) / 2 ^ r) (2 ^ 64) (pow_pos 64))

pub is_bit-join_lanes : (s r low high i : ℕ) → s + r ≡ 64 → 0 < s → low < 2 ^ 64 → i < 64 → is_bit (low / 2 ^ r + high * 2 ^ s % 2 ^ 64) i ≡ bit_of (low ∷ high ∷ []) (r + i)
is_bit-join_lanes s r low high i e some fits lt =
    ap (λ y. is_bit y i) (join_lanes_is 64 s r low high e fits ∙ sym (join_is 64 s r low high e fits)) ∙ is_bit-join s r low high i e some fits lt
