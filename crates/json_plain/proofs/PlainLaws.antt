-- Laws: a plain JSON text has no control character.
use Rattle.std.proofs.Common.{◌≡◌, ◌<◌, ◌≤◌, ◌/◌, ◌%◌, ℕ, Bool, true, false, cond, List, [], ◌∷◌, ◌++◌, arith, refl}
use Rattle.std.proofs.lemmas.Bool.Decides.{nat_tests}
use Rattle.std.proofs.lemmas.List.Elements.{All-append, All-cons, All-head, All-nil, All-tail}
use Rattle.std.specs.Fmt.{digit_glyph}
use Rattle.std.specs.Prelude.{All, get_or}
use Rattle.json_plain.specs.Laws.{HasNoHigh, IsShown}
use Rattle.json_plain.specs.Plain.{escape_text, is_escaped, is_high_control, plain_behind, plain_byte, plain_json}

low_second : (first second : ℕ) → second < 128 → is_high_control first second ≡ false
low_second first second low = grind (arith, nat_tests)

low_first : (first second : ℕ) → first < 128 → is_high_control first second ≡ false
low_first first second low = grind (arith, nat_tests)

digit_low : (d : ℕ) → d < 16 → digit_glyph false d < 127
digit_low d low = grind (arith, nat_tests)

digit_above : (d : ℕ) → d < 16 → 32 ≤ digit_glyph false d
digit_above d low = grind (arith, nat_tests)

bare_behind : (before b : ℕ) → is_escaped before b ≡ false → is_high_control before b ≡ false
bare_behind before b h = grind (arith, nat_tests)

escaped_low : (before b : ℕ) → is_escaped before b ≡ true → b < 256
escaped_low before b h = grind (arith, nat_tests)

bare_other : (before b : ℕ) → is_escaped before b ≡ false → ¬ (b ≡ 127)
bare_other before b h e = grind (arith, nat_tests)

-- after the byte q no more is a control character than after the byte p
abbrev IsNoWorse : ℕ → ℕ → Type 0
IsNoWorse q p = (c : ℕ) → is_high_control p c ≡ false → is_high_control q c ≡ false

low_no_worse : (q p : ℕ) → q < 128 → IsNoWorse q p
low_no_worse q p low c h = low_first q c low

first_no_worse : (q b after : ℕ) → is_high_control b after ≡ true → IsNoWorse q b
first_no_worse q b after high c h = grind (arith, nat_tests)

-- what stands for a byte, and what follows it
by_byte : (q before b : ℕ) (rest : List ℕ) (skipped hidden : Bool) → (skipped ≡ true → IsNoWorse q b) → is_escaped before b ≡ hidden → IsNoWorse q before
    → ((p : ℕ) → IsNoWorse p b → HasNoHigh p rest) → HasNoHigh q (cond skipped [] (cond hidden (escape_text b) (b ∷ [])) ++ rest)
by_byte q before b rest true hidden skip e worse follows = follows q (skip refl)
by_byte q before b rest false true skip e worse follows =
    let small : b < 256 = escaped_low before b e in
    let high : digit_glyph false (b / 16) < 127 = digit_low (b / 16) (omega (arith, small)) in
    let low : digit_glyph false (b % 16) < 127 = digit_low (b % 16) (omega arith) in (
      low_second q 92 (omega arith),
      (
        low_second 92 117 (omega arith),
        (
          low_second 117 48 (omega arith),
          (
            low_second 48 48 (omega arith),
            (
              low_second 48 (digit_glyph false (b / 16)) (omega (arith, high)),
              (
                low_second (digit_glyph false (b / 16)) (digit_glyph false (b % 16)) (omega (arith, low)),
                follows (digit_glyph false (b % 16)) (low_no_worse (digit_glyph false (b % 16)) b (omega (arith, low))),
              ),
            ),
          ),
        ),
      ),
    )
by_byte q before b rest false false skip e worse follows = (worse b (bare_behind before b e), follows b (λ c h. h))

by_texts : (q before : ℕ) (bytes : List ℕ) → IsNoWorse q before → HasNoHigh q (plain_behind before bytes)
unfolding plain_byte
by_texts q before [] worse = tt
by_texts q before (b ∷ bs) worse =
    by_byte q before b (plain_behind b bs) (is_high_control b (get_or bs 0 0)) (is_escaped before b) (λ e. first_no_worse q b (get_or bs 0 0) e) refl worse (λ p h. by_texts p b bs h)

-- no control character from U+0080 to U+009F
pub plain_high : (text : List ℕ) → HasNoHigh 0 (plain_json text)
unfolding plain_json
plain_high text = by_texts 0 0 text (λ c h. h)

shown_cons : (b : ℕ) (bs : List ℕ) → IsShown b → All IsShown bs → All IsShown (b ∷ bs)
shown_cons b bs h rest = All-cons IsShown b bs h rest

shown : (b : ℕ) → 32 ≤ b → b < 127 → IsShown b
shown b above below = record { above = above; other = λ e. omega (arith, below, e) }

shown_escape : (b : ℕ) → b < 256 → All IsShown (escape_text b)
shown_escape b small =
    let high = digit_glyph false (b / 16) in
    let low = digit_glyph false (b % 16) in
    let last : All IsShown (low ∷ []) = shown_cons low [] (shown low (digit_above (b % 16) (omega arith)) (digit_low (b % 16) (omega arith))) (All-nil IsShown) in
    let digits : All IsShown (high ∷ low ∷ []) = shown_cons high (low ∷ []) (shown high (digit_above (b / 16) (omega (arith, small))) (digit_low (b / 16) (omega (arith, small)))) last in
    shown_cons 92 (117 ∷ 48 ∷ 48 ∷ high ∷ low ∷ []) (shown 92 (omega arith) (omega arith))
    (shown_cons 117 (48 ∷ 48 ∷ high ∷ low ∷ []) (shown 117 (omega arith) (omega arith))
    (shown_cons 48 (48 ∷ high ∷ low ∷ []) (shown 48 (omega arith) (omega arith)) (shown_cons 48 (high ∷ low ∷ []) (shown 48 (omega arith) (omega arith)) digits)))

shown_byte : (before b : ℕ) (skipped hidden : Bool) → is_escaped before b ≡ hidden → 32 ≤ b → All IsShown (cond skipped [] (cond hidden (escape_text b) (b ∷ [])))
shown_byte before b true hidden e above = All-nil IsShown
shown_byte before b false true e above = shown_escape b (escaped_low before b e)
shown_byte before b false false e above = shown_cons b [] (record { above = above; other = bare_other before b e }) (All-nil IsShown)

shown_texts : (before : ℕ) (bytes : List ℕ) → All (λ b. 32 ≤ b) bytes → All IsShown (plain_behind before bytes)
unfolding plain_byte
shown_texts before [] h = All-nil IsShown
shown_texts before (b ∷ bs) h =
    All-append IsShown (plain_byte before b (get_or bs 0 0)) (plain_behind b bs) (shown_byte before b (is_high_control b (get_or bs 0 0)) (is_escaped before b) refl (All-head (λ x. 32 ≤ x) b bs h)) (shown_texts b bs (All-tail (λ x. 32 ≤ x) b bs h))

-- no control character of ASCII
pub plain_low : (text : List ℕ) → All (λ b. 32 ≤ b) text → All IsShown (plain_json text)
unfolding plain_json
plain_low text h = shown_texts 0 text h
