-- Laws: the texts of words and cells have no control character of ASCII, and without colours a text is as it is.
use Rattle.std.proofs.Common.{◌≡◌, ◌<◌, ◌/◌, ◌%◌, ℕ, Bool, true, false, cond, List, [], ◌∷◌, ◌++◌, Option, Some, None, arith, ap, sym, refl}
use Rattle.std.proofs.lemmas.Bool.Decides.{nat_tests}
use Rattle.std.proofs.lemmas.List.{append-nil}
use Rattle.std.proofs.lemmas.List.Elements.{All-append, All-cons, All-nil, All-weaker}
use Rattle.std.proofs.lemmas.List.Sums.{AllPass-from_list_all}
use Rattle.std.specs.Fmt.{digit_glyph}
use Rattle.std.specs.List.{list_all}
use Rattle.std.specs.Prelude.{All, get_or, length, codes, ◌==◌, not, ◌&&◌}
use Rattle.diff_words.specs.Cells.{cell_text, is_null}
use Rattle.diff_words.specs.Colors.{color_text, painted}
use Rattle.diff_words.specs.Quoted.{byte_text, hex_text, is_control, is_hidden, letter_of, quoted, text_by, texts_behind}
use Rattle.diff_words.specs.Words.{is_word, is_word_byte, word_text}
use Rattle.diff_words.specs.declared.colors.Color.{Color}

-- no byte is a control character of ASCII
abbrev pub IsPlain : List ℕ → Type 0
IsPlain text = All (λ b. is_control b ≡ false) text

plain_cons : (b : ℕ) (bs : List ℕ) → is_control b ≡ false → IsPlain bs → IsPlain (b ∷ bs)
plain_cons b bs h rest = All-cons (λ x. is_control x ≡ false) b bs h rest

plain_nil : IsPlain []
plain_nil = All-nil (λ x. is_control x ≡ false)

plain_append : (xs ys : List ℕ) → IsPlain xs → IsPlain ys → IsPlain (xs ++ ys)
plain_append xs ys h k = All-append (λ x. is_control x ≡ false) xs ys h k

plain_letter : (p q r s t : Bool) (letter : ℕ) → cond p (Some 34) (cond q (Some 92) (cond r (Some 110) (cond s (Some 114) (cond t (Some 116) None)))) ≡ Some letter → is_control letter ≡ false
plain_letter true q r s t letter e = let same : 34 ≡ letter = cc in ap is_control (sym same)
plain_letter false true r s t letter e = let same : 92 ≡ letter = cc in ap is_control (sym same)
plain_letter false false true s t letter e = let same : 110 ≡ letter = cc in ap is_control (sym same)
plain_letter false false false true t letter e = let same : 114 ≡ letter = cc in ap is_control (sym same)
plain_letter false false false false true letter e = let same : 116 ≡ letter = cc in ap is_control (sym same)
plain_letter false false false false false letter e = absurd (cc)

plain_digit : (d : ℕ) → d < 16 → is_control (digit_glyph false d) ≡ false
plain_digit d low = grind (arith, nat_tests)

pub hidden_low : (before b after : ℕ) → is_hidden before b after ≡ true → b < 256
hidden_low before b after h = grind (arith, nat_tests)

bare_plain : (before b after : ℕ) → is_hidden before b after ≡ false → is_control b ≡ false
bare_plain before b after h = grind (arith, nat_tests)

plain_hex : (b : ℕ) → b < 256 → IsPlain (hex_text b)
plain_hex b low =
    let high = digit_glyph false (b / 16) in
    let rest = digit_glyph false (b % 16) in
    plain_cons 92 (120 ∷ high ∷ rest ∷ []) refl
    (plain_cons 120 (high ∷ rest ∷ []) refl (plain_cons high (rest ∷ []) (plain_digit (b / 16) (omega arith)) (plain_cons rest [] (plain_digit (b % 16) (omega arith)) plain_nil)))

plain_choice : (before b after : ℕ) (hidden : Bool) → is_hidden before b after ≡ hidden → IsPlain (cond hidden (hex_text b) (b ∷ []))
plain_choice before b after true e = plain_hex b (hidden_low before b after e)
plain_choice before b after false e = plain_cons b [] (bare_plain before b after e) plain_nil

plain_by : (o : Option ℕ) (before b after : ℕ) → ((letter : ℕ) → o ≡ Some letter → is_control letter ≡ false) → IsPlain (text_by o (is_hidden before b after) b)
plain_by (Some letter) before b after h = plain_cons 92 (letter ∷ []) refl (plain_cons letter [] (h letter refl) plain_nil)
plain_by None before b after h = plain_choice before b after (is_hidden before b after) refl

plain_byte : (before b after : ℕ) → IsPlain (byte_text before b after)
unfolding byte_text
plain_byte before b after = plain_by (letter_of b) before b after (λ letter e. plain_letter (b == 34) (b == 92) (b == 10) (b == 13) (b == 9) letter e)

plain_texts : (before : ℕ) (bytes : List ℕ) → IsPlain (texts_behind before bytes)
plain_texts before [] = plain_nil
plain_texts before (b ∷ bs) = plain_append (byte_text before b (get_or bs 0 0)) (texts_behind b bs) (plain_byte before b (get_or bs 0 0)) (plain_texts b bs)

pub quoted_plain : (bytes : List ℕ) → IsPlain (quoted bytes)
unfolding quoted
quoted_plain bytes = plain_cons 34 (texts_behind 0 bytes ++ 34 ∷ []) refl (plain_append (texts_behind 0 bytes) (34 ∷ []) (plain_texts 0 bytes) (plain_cons 34 [] refl plain_nil))

word_byte_plain : (b : ℕ) → is_word_byte b ≡ true → is_control b ≡ false
word_byte_plain b h = grind (arith, nat_tests)

word_plain : (bytes : List ℕ) (word : Bool) → is_word bytes ≡ word → IsPlain (cond word bytes (quoted bytes))
word_plain bytes true e =
    let each : list_all is_word_byte bytes ≡ true = all_of (length bytes == 0) (list_all is_word_byte bytes) e in
    All-weaker (λ b. is_word_byte b ≡ true) (λ b. is_control b ≡ false) word_byte_plain bytes (AllPass-from_list_all is_word_byte bytes each)
  where
    all_of : (empty each : Bool) → (not empty && each) ≡ true → each ≡ true
    all_of true each h = absurd (cc)
    all_of false each h = h
word_plain bytes false e = quoted_plain bytes

pub word_text_plain : (bytes : List ℕ) → IsPlain (word_text bytes)
unfolding word_text
word_text_plain bytes = word_plain bytes (is_word bytes) refl

cell_plain : (cell : List ℕ) (null : Bool) → IsPlain (cond null (codes "null") (quoted cell))
cell_plain cell true = plain_cons 110 (codes "ull") refl (plain_cons 117 (codes "ll") refl (plain_cons 108 (codes "l") refl (plain_cons 108 [] refl plain_nil)))
cell_plain cell false = quoted_plain cell

pub cell_text_plain : (null : Option (List ℕ)) (cell : List ℕ) → IsPlain (cell_text null cell)
unfolding cell_text
cell_text_plain null cell = cell_plain cell (is_null null cell)

pub painted_bare : (color : Color) (text : List ℕ) → painted false color text ≡ text
unfolding painted color_text
painted_bare color text = append-nil text
