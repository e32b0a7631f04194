-- A string is read back.
use Rattle.std.proofs.Common.{◌≡◌, ◌⊎◌, ℕ, zero, suc, ◌+◌, ◌*◌, ◌/◌, ◌%◌, ◌<◌, ◌≤◌, Bool, true, false, cond, List, [], ◌∷◌, ◌++◌, Option, Some, None, length, get_or, inl, inr, refl, sym, ap, ap₂, subst, ◌∙◌, arith, append_assoc, append-nil}
use Rattle.std.proofs.lemmas.Bool.{cases_eq, cases_lt, ne_eqb, le-ltb}
use Rattle.std.proofs.lemmas.Bool.Decides.{nat_tests}
use Rattle.std.proofs.lemmas.Str.{inside_one}
use Rattle.std.specs.Char.{digit_value, encode_utf8, is_control, is_digit}
use Rattle.std.specs.Fmt.{digit_glyph}
use Rattle.std.specs.List.{flat_map}
use Rattle.std.specs.Str.{encode_utf8_all}
use Rattle.std.specs.Str.Lossy.{utf8_lossy}
use Rattle.bstr.proofs.lemmas.LossyLemmas.{lossy_chars-utf8_lossy}
use Rattle.bstr.specs.Utf8.{lossy_chars}
use Rattle.json.specs.Lex.{Lexeme, Mode, lex, lex_byte, between, in_string, operator, other, space, string_token, token}
use Rattle.json.specs.Text.{code_unit, content, is_high_surrogate, is_low_surrogate, plain, prepend, short_escape}
use Rattle.json.specs.Token.{string}
use Rattle.json.specs.Word.{is_operator, is_space}
use Rattle.diff_json.specs.Strings.{char_text, escape_text, json_string}

-- what a reader makes of a text, before any other: its content is these bytes, and the string does not end in it
record Reads (text bytes : List ℕ) : Type 0 where
  read : (r : List ℕ) → content plain (text ++ r) ≡ prepend bytes (content plain r)
  lexed : (r : List ℕ) → lex in_string (text ++ r) ≡ lex in_string r

stays_inside : (o s : Bool) (x : ℕ) (r : List ℕ) (k : Mode → List Lexeme) → lex_byte in_string (cond o operator (cond s space other)) x r k ≡ k in_string
stays_inside true s x r k = refl
stays_inside false true x r k = refl
stays_inside false false x r k = refl

nothing_before : (o : Option (List ℕ)) → prepend [] o ≡ o
nothing_before None = refl
nothing_before (Some s) = refl

one_after : (x : ℕ) (xs : List ℕ) (o : Option (List ℕ)) → prepend (x ∷ []) (prepend xs o) ≡ prepend (x ∷ xs) o
one_after x xs None = refl
one_after x xs (Some s) = refl

-- bytes that are no quote, no backslash and no control character stand for themselves
as_they_are : (xs : List ℕ) → ((k : ℕ) → k < length xs → (32 ≤ get_or xs k 0) × ((get_or xs k 0 ≡ 34 → ⊥) × (get_or xs k 0 ≡ 92 → ⊥))) → Reads xs xs
unfolding content lex
as_they_are [] h = record { read = λ r. sym (nothing_before (content plain r)); lexed = λ r. refl }
as_they_are (x ∷ xs) h =
    let here = h 0 (omega arith) in
    let rest = as_they_are xs (λ k below. h (suc k) (omega arith)) in
    record {
      read = λ r. rw (ne_eqb x 34 here.1.0, ne_eqb x 92 here.1.1, le-ltb x 32 here.0) (ap (prepend (x ∷ [])) (rest.read r) ∙ one_after x xs (content plain r));
      lexed = λ r. rw (ne_eqb x 34 here.1.0, ne_eqb x 92 here.1.1) (stays_inside (is_operator x) (is_space x) x (xs ++ r) (λ m. lex m (xs ++ r)) ∙ rest.lexed r);
    }

glyph_value : (d : ℕ) → d < 16 → (is_digit (digit_glyph false d) 16 ≡ true) × (digit_value (digit_glyph false d) ≡ d)
glyph_value d low = (grind (arith, nat_tests), grind (arith, nat_tests))

-- an escape stands for its character
escape_unit : (c : ℕ) → c < 256 → code_unit 48 48 (digit_glyph false (c / 16)) (digit_glyph false (c % 16)) ≡ Some c
unfolding code_unit
escape_unit c low =
    let high = glyph_value (c / 16) (omega arith) in
    let last = glyph_value (c % 16) (omega arith) in
    let sum : 0 + c / 16 * 16 + c % 16 ≡ c = omega arith in
    rw (high.0, last.0, high.1, last.1) (ap Some sum)

-- the byte may stand in a string as it is
abbrev IsPlain : ℕ → Type 0
IsPlain x = (32 ≤ x) × ((x ≡ 34 → ⊥) × (x ≡ 92 → ⊥))

glyph_plain : (d : ℕ) → d < 16 → IsPlain (digit_glyph false d)
glyph_plain d low = (grind (arith, nat_tests), (λ e. grind (arith, nat_tests), λ e. grind (arith, nat_tests)))

two_plain : (a b : ℕ) → IsPlain a → IsPlain b → (k : ℕ) → k < length (a ∷ b ∷ []) → IsPlain (get_or (a ∷ b ∷ []) k 0)
two_plain a b ha hb zero below = ha
two_plain a b ha hb (suc zero) below = hb
two_plain a b ha hb (suc (suc k)) below = absurd (omega arith)

escape_reads : (c : ℕ) → c < 256 → Reads (escape_text c) (encode_utf8 c)
unfolding content lex
escape_reads c low =
    let high_digit = digit_glyph false (c / 16) in
    let low_digit = digit_glyph false (c % 16) in
    let digits = as_they_are (high_digit ∷ low_digit ∷ []) (two_plain high_digit low_digit (glyph_plain (c / 16) (omega arith)) (glyph_plain (c % 16) (omega arith))) in
    let high : is_high_surrogate c ≡ false = grind (arith, nat_tests) in
    let paired : is_low_surrogate c ≡ false = grind (arith, nat_tests) in
    record {
      read = λ r. rw (escape_unit c low, high, paired) refl;
      lexed = λ r. digits.lexed r;
    }

-- a character that is none of these stands for itself
other_reads : (c : ℕ) → IsPlain c → Reads (encode_utf8 c) (encode_utf8 c)
other_reads c h = as_they_are (encode_utf8 c) each
  where
    each : (k : ℕ) → k < length (encode_utf8 c) → IsPlain (get_or (encode_utf8 c) k 0)
    each k below = elim (cases_lt (get_or (encode_utf8 c) k 0) 128) [
      | inl low ↦ subst IsPlain (inside_one c [] (encode_utf8 c) k (sym (append-nil _)) below low) h
      | inr high ↦ (omega arith, (λ e. omega arith, λ e. omega arith))
    ]

char_by : (c : ℕ) (control : Bool) → is_control c ≡ control → (c ≡ 34 → ⊥) → (c ≡ 92 → ⊥) → Reads (cond control (escape_text c) (encode_utf8 c)) (encode_utf8 c)
char_by c true e q b = escape_reads c (grind (arith, nat_tests))
char_by c false e q b = let above : 32 ≤ c = grind (arith, nat_tests) in other_reads c (above, (q, b))

-- a character is read back
char_reads : (c : ℕ) → Reads (char_text c) (encode_utf8 c)
unfolding char_text content lex short_escape encode_utf8
char_reads c = by_letter (cases_eq c 34) (cases_eq c 92) (cases_eq c 10) (cases_eq c 13) (cases_eq c 9)
  where
    by_letter : (c ≡ 34) ⊎ (c ≡ 34 → ⊥) → (c ≡ 92) ⊎ (c ≡ 92 → ⊥) → (c ≡ 10) ⊎ (c ≡ 10 → ⊥) → (c ≡ 13) ⊎ (c ≡ 13 → ⊥) → (c ≡ 9) ⊎ (c ≡ 9 → ⊥) → Reads (char_text c) (encode_utf8 c)
    by_letter (inl e) b n r t = subst (λ x. Reads (char_text x) (encode_utf8 x)) (sym e) (record { read = λ r. refl; lexed = λ r. refl })
    by_letter (inr q) (inl e) n r t = subst (λ x. Reads (char_text x) (encode_utf8 x)) (sym e) (record { read = λ r. refl; lexed = λ r. refl })
    by_letter (inr q) (inr b) (inl e) r t = subst (λ x. Reads (char_text x) (encode_utf8 x)) (sym e) (record { read = λ r. refl; lexed = λ r. refl })
    by_letter (inr q) (inr b) (inr n) (inl e) t = subst (λ x. Reads (char_text x) (encode_utf8 x)) (sym e) (record { read = λ r. refl; lexed = λ r. refl })
    by_letter (inr q) (inr b) (inr n) (inr r) (inl e) = subst (λ x. Reads (char_text x) (encode_utf8 x)) (sym e) (record { read = λ r. refl; lexed = λ r. refl })
    by_letter (inr q) (inr b) (inr n) (inr r) (inr t) =
        rw (ne_eqb c 34 q, ne_eqb c 92 b, ne_eqb c 10 n, ne_eqb c 13 r, ne_eqb c 9 t) (char_by c (is_control c) refl q b)

content_chars : (cs r : List ℕ) → content plain (flat_map char_text cs ++ 34 ∷ r) ≡ Some (encode_utf8_all cs)
unfolding content
content_chars [] r = refl
content_chars (c ∷ cs) r =
    ap (content plain) (append_assoc (char_text c) (flat_map char_text cs) (34 ∷ r)) ∙ (char_reads c).read _ ∙ ap (prepend (encode_utf8 c)) (content_chars cs r)

lex_chars : (cs r : List ℕ) → lex in_string (flat_map char_text cs ++ 34 ∷ r) ≡ lex between r
unfolding lex
lex_chars [] r = refl
lex_chars (c ∷ cs) r =
    ap (lex in_string) (append_assoc (char_text c) (flat_map char_text cs) (34 ∷ r)) ∙ (char_reads c).lexed _ ∙ lex_chars cs r

-- a string is one token, whatever follows
pub lex_string : (bytes r : List ℕ) → lex between (json_string bytes ++ r) ≡ token (string (utf8_lossy bytes)) ∷ lex between r
unfolding lex json_string
lex_string bytes r =
    let cs = lossy_chars bytes in
    ap (λ l. lex between (34 ∷ l)) (append_assoc (flat_map char_text cs) (34 ∷ []) r)
    ∙ ap₂ (λ o l. token (string_token o) ∷ l) (content_chars cs r ∙ ap Some (lossy_chars-utf8_lossy bytes)) (lex_chars cs r)
