-- A string that is printed plainly is read back, and the lexer passes over it.
use Rattle.std.proofs.Common.{◌≡◌, ◌⊎◌, ℕ, zero, suc, ◌+◌, ◌*◌, ◌/◌, ◌%◌, ◌<◌, ◌≤◌, Bool, true, false, cond, ◌&&◌, List, [], ◌∷◌, ◌++◌, Option, Some, None, get_or, inl, inr, refl, sym, ap, subst, ◌∙◌, arith, append_assoc}
use Rattle.std.proofs.lemmas.Bool.{and_parts, cases_eq, cases_lt, le-ltb, lt-ltb, ne_eqb}
use Rattle.std.proofs.lemmas.Bool.Decides.{nat_tests}
use Rattle.std.specs.Char.{digit_value, encode_utf8, is_digit}
use Rattle.std.specs.Fmt.{digit_glyph}
use Rattle.std.specs.List.{list_all}
use Rattle.json.specs.Lex.{Lexeme, Mode, lex, lex_byte, between, in_string, operator, other, space}
use Rattle.json.specs.Print.{escape, escape_byte}
use Rattle.json.specs.Text.{code_unit, content, is_high_surrogate, is_low_surrogate, plain, prepend, short_escape}
use Rattle.json.specs.Word.{is_operator, is_space}
use Rattle.json.proofs.Printed.Strings.{escape_byte_plain}
use Rattle.json_plain.specs.Plain.{escape_text, is_escaped, is_high_control, plain_behind, plain_byte}
use Rattle.json_plain.proofs.NumberLemmas.{is_low}

-- ---- what a reader makes of a piece of a string

-- the content of the piece is these bytes, and the string does not end in it
record Reads (text bytes : List ℕ) : Type 0 where
  read : (r : List ℕ) → content plain (text ++ r) ≡ prepend bytes (content plain r)
  lexed : (r : List ℕ) → lex in_string (text ++ r) ≡ lex in_string r

stays_inside : (o s : Bool) (x : ℕ) (r : List ℕ) (k : Mode → List Lexeme) → lex_byte in_string (cond o operator (cond s space other)) x r k ≡ k in_string
stays_inside true s x r k = refl
stays_inside false true x r k = refl
stays_inside false false x r k = refl

nothing_before : (o : Option (List ℕ)) → prepend [] o ≡ o
nothing_before None = refl
nothing_before (Some s) = refl

one_after : (x : ℕ) (xs : List ℕ) (o : Option (List ℕ)) → prepend (x ∷ []) (prepend xs o) ≡ prepend (x ∷ xs) o
one_after x xs None = refl
one_after x xs (Some s) = refl

-- the byte may stand in a string as it is
abbrev IsBare : ℕ → Type 0
IsBare x = (32 ≤ x) × ((x ≡ 34 → ⊥) × (x ≡ 92 → ⊥))

bare_reads : (x : ℕ) → IsBare x → Reads (x ∷ []) (x ∷ [])
unfolding content lex
bare_reads x h = record {
  read = λ r. rw (ne_eqb x 34 h.1.0, ne_eqb x 92 h.1.1, le-ltb x 32 h.0) refl;
  lexed = λ r. rw (ne_eqb x 34 h.1.0, ne_eqb x 92 h.1.1) (stays_inside (is_operator x) (is_space x) x r (λ m. lex m r));
}

glyph_value : (d : ℕ) → d < 16 → (is_digit (digit_glyph false d) 16 ≡ true) × (digit_value (digit_glyph false d) ≡ d)
glyph_value d low = (grind (arith, nat_tests), grind (arith, nat_tests))

glyph_bare : (d : ℕ) → d < 16 → IsBare (digit_glyph false d)
glyph_bare d low = (grind (arith, nat_tests), (λ e. grind (arith, nat_tests), λ e. grind (arith, nat_tests)))

-- an escape stands for its character
escape_unit : (c : ℕ) → c < 256 → code_unit 48 48 (digit_glyph false (c / 16)) (digit_glyph false (c % 16)) ≡ Some c
unfolding code_unit
escape_unit c low =
    let high = glyph_value (c / 16) (omega arith) in
    let last = glyph_value (c % 16) (omega arith) in
    let sum : 0 + c / 16 * 16 + c % 16 ≡ c = omega arith in
    rw (high.0, last.0, high.1, last.1) (ap Some sum)

escape_reads : (c : ℕ) → c < 256 → Reads (escape_text c) (encode_utf8 c)
unfolding content lex
escape_reads c low =
    let high_digit = bare_reads (digit_glyph false (c / 16)) (glyph_bare (c / 16) (omega arith)) in
    let low_digit = bare_reads (digit_glyph false (c % 16)) (glyph_bare (c % 16) (omega arith)) in
    let high : is_high_surrogate c ≡ false = grind (arith, nat_tests) in
    let paired : is_low_surrogate c ≡ false = grind (arith, nat_tests) in
    record {
      read = λ r. rw (escape_unit c low, high, paired) refl;
      lexed = λ r. high_digit.lexed (digit_glyph false (c % 16) ∷ r) ∙ low_digit.lexed r;
    }

-- a byte of ASCII takes one byte
one_byte : (c : ℕ) → c < 128 → encode_utf8 c ≡ c ∷ []
unfolding encode_utf8
one_byte c low = grind (arith, nat_tests)

-- a control character from U+0080 to U+009F takes two
two_bytes : (c : ℕ) → 128 ≤ c → c < 160 → encode_utf8 c ≡ 194 ∷ c ∷ []
unfolding encode_utf8
two_bytes c above below = grind (arith, nat_tests)

-- what is printed for a byte is read back
byte_reads : (c : ℕ) → Reads (escape_byte c) (c ∷ [])
unfolding escape_byte content lex short_escape encode_utf8
byte_reads c = by_letter (cases_eq c 34) (cases_eq c 92) (cases_eq c 8) (cases_eq c 12) (cases_eq c 10) (cases_eq c 13) (cases_eq c 9) (cases_lt c 32)
  where
    by_letter : (c ≡ 34) ⊎ (c ≡ 34 → ⊥) → (c ≡ 92) ⊎ (c ≡ 92 → ⊥) → (c ≡ 8) ⊎ (c ≡ 8 → ⊥) → (c ≡ 12) ⊎ (c ≡ 12 → ⊥) → (c ≡ 10) ⊎ (c ≡ 10 → ⊥) → (c ≡ 13) ⊎ (c ≡ 13 → ⊥) → (c ≡ 9) ⊎ (c ≡ 9 → ⊥)
        → (c < 32) ⊎ (32 ≤ c) → Reads (escape_byte c) (c ∷ [])
    by_letter (inl e) b k f n r t l = subst (λ x. Reads (escape_byte x) (x ∷ [])) (sym e) (record { read = λ r. refl; lexed = λ r. refl })
    by_letter (inr q) (inl e) k f n r t l = subst (λ x. Reads (escape_byte x) (x ∷ [])) (sym e) (record { read = λ r. refl; lexed = λ r. refl })
    by_letter (inr q) (inr b) (inl e) f n r t l = subst (λ x. Reads (escape_byte x) (x ∷ [])) (sym e) (record { read = λ r. refl; lexed = λ r. refl })
    by_letter (inr q) (inr b) (inr k) (inl e) n r t l = subst (λ x. Reads (escape_byte x) (x ∷ [])) (sym e) (record { read = λ r. refl; lexed = λ r. refl })
    by_letter (inr q) (inr b) (inr k) (inr f) (inl e) r t l = subst (λ x. Reads (escape_byte x) (x ∷ [])) (sym e) (record { read = λ r. refl; lexed = λ r. refl })
    by_letter (inr q) (inr b) (inr k) (inr f) (inr n) (inl e) t l = subst (λ x. Reads (escape_byte x) (x ∷ [])) (sym e) (record { read = λ r. refl; lexed = λ r. refl })
    by_letter (inr q) (inr b) (inr k) (inr f) (inr n) (inr r) (inl e) l = subst (λ x. Reads (escape_byte x) (x ∷ [])) (sym e) (record { read = λ r. refl; lexed = λ r. refl })
    by_letter (inr q) (inr b) (inr k) (inr f) (inr n) (inr r) (inr t) (inl l) =
        rw (ne_eqb c 34 q, ne_eqb c 92 b, ne_eqb c 8 k, ne_eqb c 12 f, ne_eqb c 10 n, ne_eqb c 13 r, ne_eqb c 9 t, lt-ltb c 32 l)
        (subst (λ bytes. Reads (escape_text c) bytes) (one_byte c (omega (arith, l))) (escape_reads c (omega (arith, l))))
    by_letter (inr q) (inr b) (inr k) (inr f) (inr n) (inr r) (inr t) (inr l) = rw (escape_byte_plain c q b l) (bare_reads c (l, (q, b)))

-- ---- pieces that are printed plainly

-- a byte below 127 is printed as it is
pub low_first : (p x : ℕ) (r : List ℕ) → is_low x ≡ true → plain_behind p (x ∷ r) ≡ x ∷ plain_behind x r
unfolding plain_byte
low_first p x r low =
    let kept : is_high_control x (get_or r 0 0) ≡ false = grind (arith, nat_tests) in
    let bare : is_escaped p x ≡ false = grind (arith, nat_tests) in
    rw (kept, bare) refl

-- after such a byte a text is printed as at the front
pub calm : (p : ℕ) (r : List ℕ) → is_low p ≡ true → plain_behind p r ≡ plain_behind 0 r
unfolding plain_byte
calm p [] low = refl
calm p (x ∷ r) low =
    let same : is_escaped p x ≡ is_escaped 0 x = grind (arith, nat_tests) in
    ap (λ b. cond (is_high_control x (get_or r 0 0)) [] (cond b (escape_text x) (x ∷ [])) ++ plain_behind x r) same

-- some bytes, all below 127
abbrev pub are_low : List ℕ → Bool
are_low [] = false
are_low (x ∷ xs) = list_all is_low (x ∷ xs)

pub low_run : (p : ℕ) (xs r : List ℕ) → are_low xs ≡ true → plain_behind p (xs ++ r) ≡ xs ++ plain_behind 0 r
low_run p [] r low = absurd (cc)
low_run p (x ∷ []) r low = let first = (and_parts (is_low x) true low).0 in low_first p x r first ∙ ap (λ l. x ∷ l) (calm x r first)
low_run p (x ∷ y ∷ xs) r low =
    let parts = and_parts (is_low x) (list_all is_low (y ∷ xs)) low in
    low_first p x (y ∷ xs ++ r) parts.0 ∙ ap (λ l. x ∷ l) (low_run x (y ∷ xs) r parts.1)

-- what is printed for the bytes below n is low
abbrev escapes_below : ℕ → Bool
escapes_below zero = true
escapes_below (suc n) = are_low (escape_byte n) && escapes_below n

escape_below : (n : ℕ) → escapes_below n ≡ true → (x : ℕ) → x < n → are_low (escape_byte x) ≡ true
escape_below zero e x h = absurd (omega arith)
escape_below (suc n) e x h =
    let p = and_parts (are_low (escape_byte n)) (escapes_below n) e in
    elim (cases_eq x n) [ inl same ↦ rw same p.0 | inr differs ↦ escape_below n p.1 x (omega (arith, h, differs)) ]

all_low : escapes_below 127 ≡ true
unfolding escape_byte
all_low = refl

-- ---- a string that is printed plainly

-- the content is s, and after its quote stands the plain text of r
pub record Spells (text s r : List ℕ) : Type 0 where
  pub read : content plain text ≡ Some s
  pub lexed : lex in_string text ≡ lex between (plain_behind 0 r)

behind : {text bytes : List ℕ} (rest s r : List ℕ) → Reads text bytes → Spells rest s r → Spells (text ++ rest) (bytes ++ s) r
behind {text = text} {bytes = bytes} rest s r h k = record { read = h.read rest ∙ ap (prepend bytes) k.read; lexed = h.lexed rest ∙ k.lexed }

low_second : (p x : ℕ) → x < 128 → is_high_control p x ≡ false
low_second p x low = grind (arith, nat_tests)

high_parts : (b c : ℕ) → is_high_control b c ≡ true → (b ≡ 194) × ((128 ≤ c) × (c < 160))
high_parts b c h = (grind (arith, nat_tests), (grind (arith, nat_tests), grind (arith, nat_tests)))

-- a byte that begins no control character begins none before what is printed for the bytes after it
kept_before : (b : ℕ) (s r : List ℕ) → is_high_control b (get_or s 0 0) ≡ false → is_high_control b (get_or (escape s ++ 34 ∷ r) 0 0) ≡ false
kept_before b [] r h = low_second b 34 (omega arith)
kept_before b (x ∷ s) r h = elim (cases_lt x 127) [
  | inl low ↦ first (escape_byte x) (escape_below 127 all_low x low)
  | inr high ↦ rw (escape_byte_plain x (λ e. omega (arith, high, e)) (λ e. omega (arith, high, e)) (omega (arith, high))) h
]
  where
    first : (xs : List ℕ) → are_low xs ≡ true → is_high_control b (get_or ((xs ++ escape s) ++ 34 ∷ r) 0 0) ≡ false
    first [] low = absurd (cc)
    first (y ∷ ys) low = let small : is_low y ≡ true = (and_parts (is_low y) (list_all is_low ys) low).0 in grind (arith, nat_tests)

-- what follows a byte of a string, after any byte that does not begin a control character with it
abbrev pub Follows : List ℕ → List ℕ → Type 0
Follows s r = (q : ℕ) → is_high_control q (get_or s 0 0) ≡ false → Spells (plain_behind q (escape s ++ 34 ∷ r)) s r

module _ (p b : ℕ) (s r : List ℕ) (free : is_high_control p b ≡ false) (kept : is_high_control b (get_or s 0 0) ≡ false) (rest : Follows s r) where
  low_byte : b < 127 → Spells (plain_behind p (escape (b ∷ s) ++ 34 ∷ r)) (b ∷ s) r
  low_byte low =
      let text : plain_behind p (escape (b ∷ s) ++ 34 ∷ r) ≡ escape_byte b ++ plain_behind 0 (escape s ++ 34 ∷ r) =
      ap (plain_behind p) (append_assoc (escape_byte b) (escape s) (34 ∷ r)) ∙ low_run p (escape_byte b) (escape s ++ 34 ∷ r) (escape_below 127 all_low b low) in
      subst (λ t. Spells t (b ∷ s) r) (sym text) (behind (plain_behind 0 (escape s ++ 34 ∷ r)) s r (byte_reads b) (rest 0 refl))

  other_byte : 127 ≤ b → escape (b ∷ s) ++ 34 ∷ r ≡ b ∷ (escape s ++ 34 ∷ r)
  other_byte above = ap (λ l. (l ++ escape s) ++ 34 ∷ r) (escape_byte_plain b (λ e. omega (arith, above, e)) (λ e. omega (arith, above, e)) (omega (arith, above)))

  delete : b ≡ 127 → Spells (plain_behind p (escape (b ∷ s) ++ 34 ∷ r)) (b ∷ s) r
  unfolding plain_byte
  delete e =
      let hidden : is_escaped p b ≡ true = grind (arith, nat_tests) in
      let text : plain_behind p (escape (b ∷ s) ++ 34 ∷ r) ≡ escape_text b ++ plain_behind b (escape s ++ 34 ∷ r) =
      ap (plain_behind p) (other_byte (omega (arith, e))) ∙ rw (kept_before b s r kept, hidden) refl in
      subst (λ t. Spells t (b ∷ s) r) (sym text)
      (behind (plain_behind b (escape s ++ 34 ∷ r)) s r (subst (λ bytes. Reads (escape_text b) bytes) (one_byte b (omega (arith, e))) (escape_reads b (omega (arith, e)))) (rest b kept))

  high_byte : 127 < b → Spells (plain_behind p (escape (b ∷ s) ++ 34 ∷ r)) (b ∷ s) r
  unfolding plain_byte
  high_byte above =
      let bare : is_escaped p b ≡ false = grind (arith, nat_tests) in
      let text : plain_behind p (escape (b ∷ s) ++ 34 ∷ r) ≡ b ∷ plain_behind b (escape s ++ 34 ∷ r) =
      ap (plain_behind p) (other_byte (omega (arith, above))) ∙ rw (kept_before b s r kept, bare) refl in
      subst (λ t. Spells t (b ∷ s) r) (sym text)
      (behind (plain_behind b (escape s ++ 34 ∷ r)) s r (bare_reads b (omega (arith, above), (λ e. omega (arith, above, e), λ e. omega (arith, above, e)))) (rest b kept))

  one : Spells (plain_behind p (escape (b ∷ s) ++ 34 ∷ r)) (b ∷ s) r
  one = elim (cases_lt b 127) [
    | inl low ↦ low_byte low
    | inr above ↦ elim (cases_eq b 127) [ inl e ↦ delete e | inr differs ↦ high_byte (omega (arith, above, differs)) ]
  ]

-- two bytes that are a control character
pair : (p b c : ℕ) (s r : List ℕ) → is_high_control b c ≡ true → Follows s r → Spells (plain_behind p (escape (b ∷ c ∷ s) ++ 34 ∷ r)) (b ∷ c ∷ s) r
unfolding plain_byte
pair p b c s r high rest =
    let parts = high_parts b c high in
    let plain_b = escape_byte_plain b (λ e. omega (arith, parts.0, e)) (λ e. omega (arith, parts.0, e)) (omega (arith, parts.0)) in
    let plain_c = escape_byte_plain c (λ e. omega (arith, parts.1.0, e)) (λ e. omega (arith, parts.1.0, e)) (omega (arith, parts.1.0)) in
    let letters : escape (b ∷ c ∷ s) ++ 34 ∷ r ≡ b ∷ c ∷ (escape s ++ 34 ∷ r) = rw (plain_b, plain_c) refl in
    let kept : is_high_control c (get_or (escape s ++ 34 ∷ r) 0 0) ≡ false = other_first c (get_or (escape s ++ 34 ∷ r) 0 0) parts.1.1 in
    let hidden : is_escaped b c ≡ true = grind (arith, nat_tests) in
    let text : plain_behind p (escape (b ∷ c ∷ s) ++ 34 ∷ r) ≡ escape_text c ++ plain_behind c (escape s ++ 34 ∷ r) = ap (plain_behind p) letters ∙ rw (hidden, high, kept) refl in
    let bytes : encode_utf8 c ≡ b ∷ c ∷ [] = two_bytes c parts.1.0 parts.1.1 ∙ ap (λ x. x ∷ c ∷ []) (sym parts.0) in
    subst (λ t. Spells t (b ∷ c ∷ s) r) (sym text)
    (behind (plain_behind c (escape s ++ 34 ∷ r)) s r (subst (λ l. Reads (escape_text c) l) bytes (escape_reads c (omega (arith, parts.1.1)))) (rest c (other_first c (get_or s 0 0) parts.1.1)))
  where
    other_first : (first second : ℕ) → first < 160 → is_high_control first second ≡ false
    other_first first second below = grind (arith, nat_tests)

by_pair : (p b c : ℕ) (s r : List ℕ) (high : Bool) → is_high_control b c ≡ high → is_high_control p b ≡ false → Follows s r → Follows (c ∷ s) r
    → Spells (plain_behind p (escape (b ∷ c ∷ s) ++ 34 ∷ r)) (b ∷ c ∷ s) r
by_pair p b c s r true e free shorter longer = pair p b c s r e shorter
by_pair p b c s r false e free shorter longer = one p b (c ∷ s) r free e longer

pub spells : (s r : List ℕ) → Follows s r
unfolding content lex
spells [] r q h =
    let text : plain_behind q (34 ∷ r) ≡ 34 ∷ plain_behind 0 r = low_first q 34 r refl ∙ ap (λ l. 34 ∷ l) (calm 34 r refl) in
    subst (λ t. Spells t [] r) (sym text) (record { read = refl; lexed = refl })
spells (b ∷ []) r q h = one q b [] r h (low_second b 0 (omega arith)) (λ p k. spells [] r p k)
spells (b ∷ c ∷ s) r q h = by_pair q b c s r (is_high_control b c) refl h (λ p k. spells s r p k) (λ p k. spells (c ∷ s) r p k)
