-- Law: a safe text has no backquote and no bar.
use Rattle.std.proofs.Common.{◌≡◌, ◌<◌, ◌/◌, ◌%◌, ℕ, Bool, true, false, cond, List, [], ◌∷◌, ◌==◌, arith, refl}
use Rattle.std.proofs.lemmas.Bool.Decides.{nat_tests}
use Rattle.std.proofs.lemmas.List.Elements.{All-append, All-cons, All-nil}
use Rattle.std.specs.Fmt.{digit_glyph}
use Rattle.std.specs.Prelude.{All, get_or}
use Rattle.diff_markdown.specs.Escapes.{is_escaped, is_high_control, safe, safe_behind, safe_byte, unicode_escape}
use Rattle.diff_markdown.specs.Laws.{IsInside}

digit_inside : (d : ℕ) → d < 16 → IsInside (digit_glyph false d)
digit_inside d low = record { no_backquote = grind (arith, nat_tests); no_bar = grind (arith, nat_tests) }

bare_inside : (before b : ℕ) → is_escaped before b ≡ false → IsInside b
bare_inside before b h = record { no_backquote = grind (arith, nat_tests); no_bar = grind (arith, nat_tests) }

escaped_low : (before b : ℕ) → is_escaped before b ≡ true → b < 256
escaped_low before b h = grind (arith, nat_tests)

escape_inside : (b : ℕ) → b < 256 → All IsInside (unicode_escape b)
escape_inside b small =
    let high = digit_glyph false (b / 16) in
    let low = digit_glyph false (b % 16) in
    let last : All IsInside (low ∷ []) = All-cons IsInside low [] (digit_inside (b % 16) (omega arith)) (All-nil IsInside) in
    let digits : All IsInside (high ∷ low ∷ []) = All-cons IsInside high (low ∷ []) (digit_inside (b / 16) (omega (arith, small))) last in
    let plain : (c : ℕ) → (c == 96) ≡ false → (c == 124) ≡ false → IsInside c = λ c p q. record { no_backquote = p; no_bar = q } in
    All-cons IsInside 92 (117 ∷ 48 ∷ 48 ∷ high ∷ low ∷ []) (plain 92 refl refl)
    (All-cons IsInside 117 (48 ∷ 48 ∷ high ∷ low ∷ []) (plain 117 refl refl)
    (All-cons IsInside 48 (48 ∷ high ∷ low ∷ []) (plain 48 refl refl) (All-cons IsInside 48 (high ∷ low ∷ []) (plain 48 refl refl) digits)))

byte_inside : (before b : ℕ) (skipped escaped : Bool) → is_escaped before b ≡ escaped → All IsInside (cond skipped [] (cond escaped (unicode_escape b) (b ∷ [])))
byte_inside before b true escaped e = All-nil IsInside
byte_inside before b false true e = escape_inside b (escaped_low before b e)
byte_inside before b false false e = All-cons IsInside b [] (bare_inside before b e) (All-nil IsInside)

behind_inside : (before : ℕ) (text : List ℕ) → All IsInside (safe_behind before text)
unfolding safe_byte
behind_inside before [] = All-nil IsInside
behind_inside before (b ∷ bs) =
    All-append IsInside (safe_byte before b (get_or bs 0 0)) (safe_behind b bs) (byte_inside before b (is_high_control b (get_or bs 0 0)) (is_escaped before b) refl) (behind_inside b bs)

pub safe_inside : (text : List ℕ) → All IsInside (safe text)
unfolding safe
safe_inside text = behind_inside 0 text
