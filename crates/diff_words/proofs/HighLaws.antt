-- Laws: the texts of words and cells have no control character from U+0080 to U+009F.
use Rattle.std.proofs.Common.{◌≡◌, ◌<◌, ◌/◌, ◌%◌, ℕ, Bool, true, false, cond, List, [], ◌∷◌, ◌++◌, Option, Some, None, arith, refl}
use Rattle.std.proofs.lemmas.Bool.Decides.{nat_tests}
use Rattle.std.proofs.lemmas.List.{append_assoc}
use Rattle.std.specs.Fmt.{digit_glyph}
use Rattle.std.specs.List.{list_all}
use Rattle.std.specs.Prelude.{get_or, length, codes, ◌==◌, not, ◌&&◌}
use Rattle.diff_words.specs.Cells.{cell_text, is_null}
use Rattle.diff_words.specs.Quoted.{byte_text, hex_text, is_hidden, is_high_control, letter_of, quoted, text_by, texts_behind}
use Rattle.diff_words.specs.Words.{is_word, is_word_byte, word_text}
use Rattle.diff_words.proofs.PlainLaws.{hidden_low}

-- no two bytes one after the other are a control character from U+0080 to U+009F, where `before` stands before the first one
abbrev pub HasNoHigh : ℕ → List ℕ → Type 0
HasNoHigh before [] = Unit {0}
HasNoHigh before (b ∷ bs) = (is_high_control before b ≡ false) × HasNoHigh b bs

low_second : (first second : ℕ) → second < 128 → is_high_control first second ≡ false
low_second first second low = grind (arith, nat_tests)

low_first : (first second : ℕ) → first < 128 → is_high_control first second ≡ false
low_first first second low = grind (arith, nat_tests)

digit_low : (d : ℕ) → d < 16 → digit_glyph false d < 128
digit_low d low = grind (arith, nat_tests)

bare_behind : (before b after : ℕ) → is_hidden before b after ≡ false → is_high_control before b ≡ false
bare_behind before b after h = grind (arith, nat_tests)

letter_low : (p q r s t : Bool) (letter : ℕ) → cond p (Some 34) (cond q (Some 92) (cond r (Some 110) (cond s (Some 114) (cond t (Some 116) None)))) ≡ Some letter → letter < 128
letter_low true q r s t letter e = let same : 34 ≡ letter = cc in omega (arith, same)
letter_low false true r s t letter e = let same : 92 ≡ letter = cc in omega (arith, same)
letter_low false false true s t letter e = let same : 110 ≡ letter = cc in omega (arith, same)
letter_low false false false true t letter e = let same : 114 ≡ letter = cc in omega (arith, same)
letter_low false false false false true letter e = let same : 116 ≡ letter = cc in omega (arith, same)
letter_low false false false false false letter e = absurd (cc)

-- after a byte no more is a control character than after another one
abbrev IsNoWorse : ℕ → ℕ → Type 0
IsNoWorse p q = (c : ℕ) → is_high_control q c ≡ false → is_high_control p c ≡ false

no_worse : (p q : ℕ) → p < 128 → IsNoWorse p q
no_worse p q low c h = low_first p c low

-- a byte and what follows it
by_choice : (p before b after : ℕ) (hidden : Bool) (rest : List ℕ) → is_hidden before b after ≡ hidden → IsNoWorse p before
    → ((q : ℕ) → IsNoWorse q b → HasNoHigh q rest) → HasNoHigh p (cond hidden (hex_text b) (b ∷ []) ++ rest)
by_choice p before b after true rest e worse follows =
    let small : b < 256 = hidden_low before b after e in
    let high : digit_glyph false (b / 16) < 128 = digit_low (b / 16) (omega (arith, small)) in
    let low : digit_glyph false (b % 16) < 128 = digit_low (b % 16) (omega arith) in (
      low_second p 92 (omega arith),
      (
        low_second 92 120 (omega arith),
        (
          low_second 120 (digit_glyph false (b / 16)) high,
          (
            low_second (digit_glyph false (b / 16)) (digit_glyph false (b % 16)) low,
            follows (digit_glyph false (b % 16)) (no_worse (digit_glyph false (b % 16)) b low),
          ),
        ),
      ),
    )
by_choice p before b after false rest e worse follows = (worse b (bare_behind before b after e), follows b (λ c h. h))

by_letter : (o : Option ℕ) (p before b after : ℕ) (rest : List ℕ) → ((letter : ℕ) → o ≡ Some letter → letter < 128) → IsNoWorse p before
    → ((q : ℕ) → IsNoWorse q b → HasNoHigh q rest) → HasNoHigh p (text_by o (is_hidden before b after) b ++ rest)
by_letter (Some letter) p before b after rest low worse follows =
    (low_second p 92 (omega arith), (low_second 92 letter (low letter refl), follows letter (no_worse letter b (low letter refl))))
by_letter None p before b after rest low worse follows = by_choice p before b after (is_hidden before b after) rest refl worse follows

by_byte : (p before b after : ℕ) (rest : List ℕ) → IsNoWorse p before → ((q : ℕ) → IsNoWorse q b → HasNoHigh q rest) → HasNoHigh p (byte_text before b after ++ rest)
unfolding byte_text
by_byte p before b after rest worse follows =
    by_letter (letter_of b) p before b after rest (λ letter e. letter_low (b == 34) (b == 92) (b == 10) (b == 13) (b == 9) letter e) worse follows

by_texts : (p before : ℕ) (bytes : List ℕ) → IsNoWorse p before → HasNoHigh p (texts_behind before bytes ++ 34 ∷ [])
by_texts p before [] worse = (low_second p 34 (omega arith), tt)
by_texts p before (b ∷ bs) worse =
    rw (append_assoc (byte_text before b (get_or bs 0 0)) (texts_behind b bs) (34 ∷ []))
    (by_byte p before b (get_or bs 0 0) (texts_behind b bs ++ 34 ∷ []) worse (λ q h. by_texts q b bs h))

pub quoted_high : (bytes : List ℕ) → HasNoHigh 0 (quoted bytes)
unfolding quoted
quoted_high bytes = (refl, by_texts 34 0 bytes (no_worse 34 0 (omega arith)))

word_byte : (before b : ℕ) → is_word_byte before ≡ true → is_high_control before b ≡ false
word_byte before b h = grind (arith, nat_tests)

both : (p q : Bool) → (p && q) ≡ true → (p ≡ true) × (q ≡ true)
both true q h = (refl, h)
both false q h = absurd (cc)

word_bytes : (before : ℕ) (bytes : List ℕ) → ((c : ℕ) → is_high_control before c ≡ false) → list_all is_word_byte bytes ≡ true → HasNoHigh before bytes
word_bytes before [] low h = tt
word_bytes before (b ∷ bs) low h =
    let parts : (is_word_byte b ≡ true) × (list_all is_word_byte bs ≡ true) = both (is_word_byte b) (list_all is_word_byte bs) h in
    (low b, word_bytes b bs (λ c. word_byte b c parts.0) parts.1)

word_high : (bytes : List ℕ) (word : Bool) → is_word bytes ≡ word → HasNoHigh 0 (cond word bytes (quoted bytes))
word_high bytes true e =
    let parts : (not (length bytes == 0) ≡ true) × (list_all is_word_byte bytes ≡ true) = both (not (length bytes == 0)) (list_all is_word_byte bytes) e in
    word_bytes 0 bytes (λ c. low_first 0 c (omega arith)) parts.1
word_high bytes false e = quoted_high bytes

pub word_text_high : (bytes : List ℕ) → HasNoHigh 0 (word_text bytes)
unfolding word_text
word_text_high bytes = word_high bytes (is_word bytes) refl

cell_high : (cell : List ℕ) (null : Bool) → HasNoHigh 0 (cond null (codes "null") (quoted cell))
cell_high cell true = (refl, (refl, (refl, (refl, tt))))
cell_high cell false = quoted_high cell

pub cell_text_high : (null : Option (List ℕ)) (cell : List ℕ) → HasNoHigh 0 (cell_text null cell)
unfolding cell_text
cell_text_high null cell = cell_high cell (is_null null cell)
