-- Words that hold the bits of bytes.
use Rattle.std.proofs.Common.{◌≡◌, ◌≢◌, ℕ, ◌+◌, ◌-◌, ◌*◌, ◌/◌, ◌%◌, ◌<◌, ◌≤◌, Bool, false, eqb, ◌||◌, List, [], ◌∷◌, ◌++◌, length, get_or, take, drop, refl, sym, ap, ◌∙◌, inl, inr, arith}
use Rattle.std.specs.Prelude.{Some}
use Rattle.std.proofs.lemmas.Bool.{cases_lt}
use Rattle.std.proofs.lemmas.List.{get_or_append_left, get_or-drop, get_or-take, get_or_default, same_lists}
use Rattle.std.proofs.lemmas.List.FromFn.{get_or-map-range_with_len, length-map-range_with_len}
use Rattle.std.proofs.lemmas.Nat.Bits.{bit_at_above}
use Rattle.std.proofs.Math.Seq.{get_or-append_seam}
use Rattle.polars_arrays_words.specs.Bits.{bit_of, is_bit}
use Rattle.arrow_parts.specs.ByteBits.{HoldBits, HoldPresence, byte_bit, byte_window, presence}
use Rattle.arrow_parts.specs.ByteWords.{HaveBytes, IsBytes}

byte_above : (byte i : ℕ) → byte < 256 → 8 ≤ i → is_bit byte i ≡ false
byte_above byte i small le = ap (λ b. eqb b 1) (bit_at_above byte 8 i small le)

-- bit j of byte k
byte_bit-at : (bytes : List ℕ) (k j : ℕ) → j < 8 → byte_bit bytes (8 * k + j) ≡ is_bit (get_or bytes k 0) j
byte_bit-at bytes k j low =
    let place : (8 * k + j) / 8 ≡ k = omega arith in
    let rest : (8 * k + j) % 8 ≡ j = omega arith in
    ap (λ q. is_bit (get_or bytes q 0) ((8 * k + j) % 8)) place ∙ ap (is_bit (get_or bytes k 0)) rest

pub zero_bit : (i : ℕ) → is_bit 0 i ≡ false
zero_bit i = ap (λ b. eqb b 1) (bit_at_above 0 0 i (omega arith) (omega arith))

pub bytes-none : (bytes : List ℕ) (at : ℕ) → IsBytes bytes at 0 0
bytes-none bytes at = record { bits = λ i low. absurd (omega arith); rest = λ i past low. zero_bit i }

-- a bit of the byte that is put after `count` others
put_bit : (bytes : List ℕ) (at count word new i : ℕ) → count < 8 → IsBytes bytes at count word → ((j : ℕ) → j < 64 - 8 * count → is_bit new (8 * count + j) ≡ (is_bit word (8 * count + j) || is_bit (get_or bytes (at + count) 0) j)) → 8 * count ≤ i → i < 64 → is_bit new i ≡ is_bit (get_or bytes (at + count) 0) (i - 8 * count)
put_bit bytes at count word new i few was above past low =
    let place : 8 * count + (i - 8 * count) ≡ i = omega arith in
    ap (is_bit new) (sym place)
    ∙ above (i - 8 * count) (omega arith)
    ∙ ap (λ b. b || is_bit (get_or bytes (at + count) 0) (i - 8 * count)) (was.rest (8 * count + (i - 8 * count)) (omega arith) (omega arith))

-- one byte more
pub bytes-put : (bytes : List ℕ) (at count byte word new : ℕ) → count < 8 → byte ≡ get_or bytes (at + count) 0 → get_or bytes (at + count) 0 < 256 → IsBytes bytes at count word → ((i : ℕ) → i < 8 * count → is_bit new i ≡ is_bit word i) → ((j : ℕ) → j < 64 - 8 * count → is_bit new (8 * count + j) ≡ (is_bit word (8 * count + j) || is_bit byte j)) → IsBytes bytes at (count + 1) new
bytes-put bytes at count byte word new few is small was below above =
    let there : (j : ℕ) → j < 64 - 8 * count → is_bit new (8 * count + j) ≡ (is_bit word (8 * count + j) || is_bit (get_or bytes (at + count) 0) j) =
    λ j low. above j low ∙ ap (λ q. is_bit word (8 * count + j) || is_bit q j) is in
    record {
      bits = λ i low. elim (cases_lt i (8 * count)) [
        | inl before ↦ below i before ∙ was.bits i before
        | inr past ↦
            let place : 8 * (at + count) + (i - 8 * count) ≡ 8 * at + i = omega arith in
            put_bit bytes at count word new i few was there past (omega arith)
            ∙ sym (byte_bit-at bytes (at + count) (i - 8 * count) (omega arith))
            ∙ ap (byte_bit bytes) place
      ];
      rest = λ i past low.
          put_bit bytes at count word new i few was there (omega arith) low
          ∙ byte_above (get_or bytes (at + count) 0) (i - 8 * count) small (omega arith);
    }

pub words-none : (bytes words : List ℕ) → HaveBytes bytes 0 words
words-none bytes words = record { bits = λ p low. absurd (omega arith) }

-- one word more
pub words-push : (bytes words : List ℕ) (k at count word : ℕ) → length words ≡ k → at ≡ 8 * k → count ≤ 8 → HaveBytes bytes (8 * k) words → IsBytes bytes at count word → HaveBytes bytes (8 * k + count) (words ++ word ∷ [])
words-push bytes words k at count word long begin few was bits = record {
  bits = λ p low. elim (cases_lt p (64 * k)) [
    | inl before ↦
        let word_at : p / 64 < length words = omega arith in
        ap (λ w. is_bit w (p % 64)) (get_or_append_left words (word ∷ []) 0 (p / 64) word_at) ∙ was.bits p (omega arith)
    | inr past ↦
        let word_at : p / 64 ≡ length words = omega arith in
        let rest : p % 64 ≡ p - 64 * k = omega arith in
        let place : 8 * at + (p - 64 * k) ≡ p = omega arith in
        ap (λ q. is_bit (get_or (words ++ word ∷ []) q 0) (p % 64)) word_at
        ∙ ap (λ w. is_bit w (p % 64)) (get_or-append_seam words word [] 0)
        ∙ ap (is_bit word) rest
        ∙ bits.bits (p - 64 * k) (omega arith)
        ∙ ap (byte_bit bytes) place
  ];
}

pub presence-some : (at n : ℕ) (bytes : List ℕ) → bytes ≢ [] → presence at n bytes ≡ Some (byte_window at n bytes)
presence-some at n [] some = absurd (some refl)
presence-some at n (byte ∷ bytes) some = refl

-- a bit of the bytes from byte `first` up to byte `end`
pub cut-bit : (bytes : List ℕ) (at i end : ℕ) → at + i < 8 * end → byte_bit (take (end - at / 8) (drop (at / 8) bytes)) (at % 8 + i) ≡ byte_bit bytes (at + i)
cut-bit bytes at i end low =
    let within : (at % 8 + i) / 8 < end - at / 8 = omega arith in
    let byte : at / 8 + (at % 8 + i) / 8 ≡ (at + i) / 8 = omega arith in
    let bit : (at % 8 + i) % 8 ≡ (at + i) % 8 = omega arith in
    ap (λ b. is_bit b ((at % 8 + i) % 8)) (get_or-take (end - at / 8) (drop (at / 8) bytes) ((at % 8 + i) / 8) 0 within ∙ get_or-drop (at / 8) bytes ((at % 8 + i) / 8) 0)
    ∙ ap (λ q. is_bit (get_or bytes q 0) ((at % 8 + i) % 8)) byte
    ∙ ap (is_bit (get_or bytes ((at + i) / 8) 0)) bit

-- bits of words that hold the bytes from byte at / 8 up to byte `end` are those of all bytes
pub bits-window : (bytes words : List ℕ) (at n end m : ℕ) (bits : List Bool) → HaveBytes (take (end - at / 8) (drop (at / 8) bytes)) m words → at % 8 + n ≤ 8 * m → at + n ≤ 8 * end → length bits ≡ n → ((i : ℕ) → i < n → get_or bits i false ≡ bit_of words (at % 8 + i)) → bits ≡ byte_window at n bytes
bits-window bytes words at n end m bits have within before long each =
    let there : length (byte_window at n bytes) ≡ n = length-map-range_with_len (λ i. byte_bit bytes (at + i)) 0 n in
    same_lists bits (byte_window at n bytes) (long ∙ sym there)
    (λ i d low.
    let below : i < n = omega arith in
    get_or_default bits i d false low
    ∙ each i below
    ∙ have.bits (at % 8 + i) (omega arith)
    ∙ cut-bit bytes at i end (omega arith)
    ∙ sym (get_or-map-range_with_len (λ j. byte_bit bytes (at + j)) 0 n i i d below (omega arith)))

pub presence-held : (at n : ℕ) (bytes : List ℕ) → HoldBits at n bytes → HoldPresence at n bytes
presence-held at n [] held = tt
presence-held at n (byte ∷ bytes) held = held
