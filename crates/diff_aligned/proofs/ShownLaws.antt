-- Laws: no character of a line is hidden.
use Rattle.std.proofs.Common.{◌≡◌, ◌<◌, ◌+◌, ◌-◌, ◌/◌, ◌%◌, ℕ, zero, suc, Bool, true, false, not, cond, List, [], ◌∷◌, ◌++◌, nat_le, nat_lt, ◌&&◌, arith, ap, ◌∙◌, refl}
use Rattle.std.proofs.lemmas.Bool.Decides.{nat_tests}
use Rattle.std.proofs.lemmas.List.Folds.{list_all-append}
use Rattle.std.specs.Fmt.{digit_glyph}
use Rattle.std.specs.List.{flat_map, list_all}
use Rattle.bstr.specs.Utf8.{lossy_chars}
use Rattle.diff_widths.specs.Cut.{beginning, char_columns, cut, ending, filler, is_end, padded, shortened, spaces, width}
use Rattle.diff_aligned.specs.Shown.{escape, is_hidden, shown_char, text_of, unit_escape}

-- a text without hidden characters
abbrev pub is_shown : ℕ → Bool
is_shown c = not (is_hidden c)

abbrev pub Shown : List ℕ → Type 0
Shown text = list_all is_shown text ≡ true

both : (a b : Bool) → a ≡ true → b ≡ true → (a && b) ≡ true
both a b p q = rw (p, q) refl

first : (a b : Bool) → (a && b) ≡ true → a ≡ true
first true b h = refl
first false b h = h

second : (a b : Bool) → (a && b) ≡ true → b ≡ true
second true b h = h
second false b h = absurd (cc)

pub shown-append : (xs ys : List ℕ) → Shown xs → Shown ys → Shown (xs ++ ys)
shown-append xs ys p q = list_all-append is_shown xs ys ∙ both (list_all is_shown xs) (list_all is_shown ys) p q

shown-cons : (x : ℕ) (xs : List ℕ) → is_shown x ≡ true → Shown xs → Shown (x ∷ xs)
shown-cons x xs p q = both (is_shown x) (list_all is_shown xs) p q

-- printable ASCII
ascii-shown : (c : ℕ) → 31 < c → c < 127 → is_shown c ≡ true
unfolding is_hidden
ascii-shown c low high = grind (arith, nat_tests)

digit-shown : (d : ℕ) → d < 16 → is_shown (digit_glyph false d) ≡ true
digit-shown d small = ascii-shown (digit_glyph false d) (grind (arith, nat_tests)) (grind (arith, nat_tests))

four-shown : (a b c d : ℕ) → is_shown a ≡ true → is_shown b ≡ true → is_shown c ≡ true → is_shown d ≡ true → Shown (92 ∷ 117 ∷ a ∷ b ∷ c ∷ d ∷ [])
four-shown a b c d p q r t =
    shown-cons 92 (117 ∷ a ∷ b ∷ c ∷ d ∷ []) (ascii-shown 92 (omega arith) (omega arith)) (shown-cons 117 (a ∷ b ∷ c ∷ d ∷ []) (ascii-shown 117 (omega arith) (omega arith))
    (shown-cons a (b ∷ c ∷ d ∷ []) p (shown-cons b (c ∷ d ∷ []) q (shown-cons c (d ∷ []) r (shown-cons d [] t refl)))))

unit-shown : (u : ℕ) → Shown (unit_escape u)
unit-shown u =
    four-shown (digit_glyph false (u / 4096 % 16)) (digit_glyph false (u / 256 % 16)) (digit_glyph false (u / 16 % 16)) (digit_glyph false (u % 16)) (digit-shown (u / 4096 % 16) (omega arith))
    (digit-shown (u / 256 % 16) (omega arith)) (digit-shown (u / 16 % 16) (omega arith)) (digit-shown (u % 16) (omega arith))

escape-shown : (c : ℕ) → Shown (escape c)
unfolding escape
escape-shown c = by_test (nat_lt c 0x10000)
  where
    high : ℕ
    high = 0xD800 + (c - 0x10000) / 1024

    low : ℕ
    low = 0xDC00 + c % 1024

    by_test : (b : Bool) → Shown (cond b (unit_escape c) (unit_escape high ++ unit_escape low))
    by_test true = unit-shown c
    by_test false = shown-append (unit_escape high) (unit_escape low) (unit-shown high) (unit-shown low)

char-shown : (c : ℕ) → Shown (shown_char c)
unfolding shown_char
char-shown c = by_test (is_hidden c) refl
  where
    by_test : (b : Bool) → is_hidden c ≡ b → Shown (cond b (escape c) (c ∷ []))
    by_test true e = escape-shown c
    by_test false e = shown-cons c [] (ap not e) refl

all-shown : (cs : List ℕ) → Shown (flat_map shown_char cs)
all-shown [] = refl
all-shown (c ∷ cs) = shown-append (shown_char c) (flat_map shown_char cs) (char-shown c) (all-shown cs)

pub text-shown : (bytes : List ℕ) → Shown (text_of bytes)
unfolding text_of
text-shown bytes = all-shown (lossy_chars bytes)

-- ---- what is cut of a text

beginning-shown : (room : ℕ) (cs : List ℕ) → Shown cs → Shown (beginning room cs)
beginning-shown room [] h = refl
beginning-shown room (c ∷ cs) h = by_test (nat_le (char_columns c) room) (beginning-shown (room - char_columns c) cs (second (is_shown c) (list_all is_shown cs) h))
  where
    by_test : (b : Bool) → Shown (beginning (room - char_columns c) cs) → Shown (cond b (c ∷ beginning (room - char_columns c) cs) [])
    by_test true rest = shown-cons c (beginning (room - char_columns c) cs) (first (is_shown c) (list_all is_shown cs) h) rest
    by_test false rest = refl

ending-shown : (room : ℕ) (cs : List ℕ) → Shown cs → Shown (ending room cs)
ending-shown room [] h = refl
ending-shown room (c ∷ cs) h = by_test (is_end room c cs) (ending-shown room cs (second (is_shown c) (list_all is_shown cs) h))
  where
    by_test : (b : Bool) → Shown (ending room cs) → Shown (cond b (c ∷ cs) (ending room cs))
    by_test true rest = h
    by_test false rest = rest

dots-shown : is_shown 0x2026 ≡ true
unfolding is_hidden
dots-shown = refl

shortened-shown : (room : ℕ) (cs : List ℕ) → Shown cs → Shown (shortened room cs)
shortened-shown zero cs h = refl
shortened-shown (suc room) cs h =
    shown-append (beginning (room - room / 2) cs) (0x2026 ∷ ending (room / 2) cs) (beginning-shown (room - room / 2) cs h)
    (shown-cons 0x2026 (ending (room / 2) cs) dots-shown (ending-shown (room / 2) cs h))

pub cut-shown : (room : ℕ) (cs : List ℕ) → Shown cs → Shown (cut room cs)
unfolding cut
cut-shown room cs h = by_test (nat_le (width cs) room)
  where
    by_test : (b : Bool) → Shown (cond b cs (shortened room cs))
    by_test true = h
    by_test false = shortened-shown room cs h

space-shown : is_shown 32 ≡ true
unfolding is_hidden
space-shown = refl

pub spaces-shown : (n : ℕ) → Shown (spaces n)
spaces-shown zero = refl
spaces-shown (suc n) = shown-cons 32 (spaces n) space-shown (spaces-shown n)

pub padded-shown : (room : ℕ) (cs : List ℕ) → Shown cs → Shown (padded room cs)
unfolding padded
padded-shown room cs h = shown-append (cut room cs) (filler room (cut room cs)) (cut-shown room cs h) (spaces-shown (room - width (cut room cs)))
