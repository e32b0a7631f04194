-- The printed text of a number reads back.
use Rattle.std.proofs.Common.{◌≡◌, ℕ, zero, suc, ◌+◌, ◌-◌, ◌*◌, ◌^◌, ◌<◌, ◌≤◌, ◌↔◌, Bool, true, false, cond, ◌==◌, nat_lt, List, [], ◌∷◌, ◌++◌, length, get_or, take, drop, replicate, inr, refl, sym, ap, ◌∙◌, subst, arith, true≢false, append-nil, length-append, length-take, length-drop}
use Rattle.std.proofs.Math.Nat.{pow-suc}
use Rattle.std.proofs.lemmas.Bool.{ne_eqb}
use Rattle.std.proofs.lemmas.Bool.Decides.{nat_tests}
use Rattle.std.proofs.lemmas.List.{length-replicate, take-append-drop}
use Rattle.std.proofs.lemmas.List.Folds.{list_all-append}
use Rattle.std.proofs.lemmas.Str.Parse.{digit_from_value}
use Rattle.std.specs.Char.{digit_value}
use Rattle.std.specs.Fmt.{sign_text}
use Rattle.std.specs.List.{list_all}
use Rattle.std.specs.Str.Parse.{AllDigits, digits_value, digits_value_after}
use Rattle.fast_float.proofs.Reading.{scan_numeral-AllDigits}
use Rattle.fast_float.proofs.Rows.{AllDigits-append, AllDigits-take, AllDigits-drop}
use Rattle.fast_float.proofs.Writing.{scan-text_of}
use Rattle.fast_float.specs.Text.{Parts, scan, text_of, IsWellFormed, tens_up, tens_down}
use Rattle.json_decimals.specs.Decimals.{Decimal, AreEqual, worth, is_negative, unsigned, parts_of, decimal_of, normal_of}
use Rattle.json_decimals.specs.Texts.{digits_text, tens_text, number_text, normal_number}
use Rattle.json_decimals.proofs.EqualLemmas.{made, passes, by_forms}
use Rattle.json_decimals.proofs.NormalLemmas.{has_form}
use Rattle.json_decimals.proofs.SpelledLemmas.{digits_text-IsSpelled}
use Rattle.json_decimals.proofs.TextLemmas.{reads_back, texts_tell}
use Rattle.json_plain.specs.Plain.{plain_behind, plain_json}
use Rattle.json_plain.proofs.NumberLemmas.{is_low}
use Rattle.json_plain.proofs.StringLemmas.{low_run}
use Rattle.document_words.specs.Numbers.{is_short, with_point, plain_digits, value_text}
use Rattle.document_words.proofs.ShortLemmas.{short-digits}

-- ---- zeros

abbrev zeros : ℕ → List ℕ
zeros n = replicate n 48

zeros-digits : (n : ℕ) → AllDigits 10 (zeros n)
zeros-digits zero = tt
zeros-digits (suc n) = (omega arith, zeros-digits n)

after-append : (n : ℕ) (xs ys : List ℕ) → digits_value_after 10 n (xs ++ ys) ≡ digits_value_after 10 (digits_value_after 10 n xs) ys
after-append n [] ys = refl
after-append n (x ∷ xs) ys = after-append (n * 10 + digit_value x) xs ys

ten_more : (n x : ℕ) → (n * 10 + 0) * x ≡ n * (x * 10)
ten_more n x = omega arith

after-zeros : (n k : ℕ) → digits_value_after 10 n (zeros k) ≡ n * 10 ^ k
after-zeros n zero = omega arith
after-zeros n (suc k) = after-zeros (n * 10 + 0) k ∙ ten_more n (10 ^ k) ∙ ap (λ x. n * x) (sym (pow-suc 10 k))

value-behind : (ds : List ℕ) (k : ℕ) → digits_value 10 (ds ++ zeros k) ≡ digits_value 10 ds * 10 ^ k
value-behind ds k = after-append 0 ds (zeros k) ∙ after-zeros (digits_value 10 ds) k

value-before : (k : ℕ) (ds : List ℕ) → digits_value 10 (zeros k ++ ds) ≡ digits_value 10 ds
value-before zero ds = refl
value-before (suc k) ds = value-before k ds

-- ---- numerals without an exponent

abbrev bare : List ℕ → Bool → List ℕ → Parts
bare whole point fraction = record { whole = whole; point = point; fraction = fraction; exponent_negative = false; exponent = []; len = length (whole ++ (cond point (46 ∷ fraction) [] ++ [])) }

well_formed : (whole : List ℕ) (point : Bool) (fraction : List ℕ) → AllDigits 10 whole → AllDigits 10 fraction → (point ≡ false → fraction ≡ []) → IsWellFormed (bare whole point fraction)
well_formed whole point fraction w f none = record {
  whole_digits = w;
  fraction_digits = f;
  exponent_digits = tt;
  no_point = none;
  no_exponent = λ _. refl;
  len_is = refl;
}

first_digit : (ds rest : List ℕ) → AllDigits 10 ds → 0 < length ds → (get_or (ds ++ rest) 0 0 == 45) ≡ false
first_digit [] rest d some = absurd (omega arith)
first_digit (c ∷ cs) rest d some = let r = digit_from_value c d.0 in ne_eqb c 45 (λ e. omega arith)

read : (negative : Bool) (whole : List ℕ) (point : Bool) (fraction : List ℕ) → IsWellFormed (bare whole point fraction) → 0 < length whole
    → decimal_of (sign_text negative ++ text_of (bare whole point fraction)) ≡ worth negative (bare whole point fraction)
unfolding decimal_of
read true whole point fraction h some = ap (worth true) (scan-text_of (bare whole point fraction) h)
read false whole point fraction h some =
    let none = first_digit whole (cond point (46 ∷ fraction) [] ++ []) h.whole_digits some in
    let t : List ℕ = text_of (bare whole point fraction) in
    ap (λ b. worth b (scan (cond b (drop 1 t) t))) none ∙ ap (worth false) (scan-text_of (bare whole point fraction) h)

equal_up : (negative : Bool) (c v up : ℕ) → c ≡ v * 10 ^ up → AreEqual (made negative c 0 0) (made negative v up 0)
equal_up negative c v up e =
    let none : up + 0 ≡ up = omega arith in
    let one : c * 10 ^ 0 ≡ c = omega arith in
    record { size = one ∙ e ∙ ap (λ k. v * 10 ^ k) (sym none); sign = inr refl }

equal_down : (negative : Bool) (c v d down : ℕ) → c ≡ v → d ≡ down → AreEqual (made negative c 0 d) (made negative v 0 down)
equal_down negative c v d down e f = record { size = (λ i. e i * 10 ^ (0 + sym f i)); sign = inr refl }

-- digits, and zeros after them
whole_reads : (negative : Bool) (ds : List ℕ) (up : ℕ) → AllDigits 10 ds → 0 < length ds
    → AreEqual (decimal_of (sign_text negative ++ (ds ++ zeros up))) (made negative (digits_value 10 ds) up 0)
whole_reads negative ds up d some =
    let whole : List ℕ = ds ++ zeros up in
    let long : 0 < length whole = omega (arith, length-append ds (zeros up)) in
    let ok = well_formed whole false [] (AllDigits-append ds (zeros up) d (zeros-digits up)) tt (λ _. refl) in
    let text : decimal_of (sign_text negative ++ whole) ≡ worth negative (bare whole false []) =
    ap (λ t. decimal_of (sign_text negative ++ t)) (sym (append-nil whole)) ∙ read negative whole false [] ok long in
    let value : digits_value 10 (whole ++ []) ≡ digits_value 10 ds * 10 ^ up = ap (digits_value 10) (append-nil whole) ∙ value-behind ds up in
    subst (λ (a : Decimal). AreEqual a (made negative (digits_value 10 ds) up 0)) (sym text) (equal_up negative (digits_value 10 (whole ++ [])) (digits_value 10 ds) up value)

-- digits on both sides of a point
point_reads : (negative : Bool) (whole fraction : List ℕ) (v down : ℕ) → AllDigits 10 whole → AllDigits 10 fraction → 0 < length whole → digits_value 10 (whole ++ fraction) ≡ v → length fraction ≡ down
    → AreEqual (decimal_of (sign_text negative ++ (whole ++ 46 ∷ fraction))) (made negative v 0 down)
point_reads negative whole fraction v down w f some value places =
    let ok = well_formed whole true fraction w f (λ e. absurd (true≢false e)) in
    let text : decimal_of (sign_text negative ++ (whole ++ 46 ∷ fraction)) ≡ worth negative (bare whole true fraction) =
    ap (λ t. decimal_of (sign_text negative ++ (whole ++ 46 ∷ t))) (sym (append-nil fraction)) ∙ read negative whole true fraction ok some in
    let all : length fraction + 0 ≡ down = omega (arith, places) in
    subst (λ (a : Decimal). AreEqual a (made negative v 0 down)) (sym text) (equal_down negative (digits_value 10 (whole ++ fraction)) v (length fraction + 0) down value all)

with_point_reads : (negative : Bool) (ds : List ℕ) (down : ℕ) → AllDigits 10 ds → 0 < length ds
    → AreEqual (decimal_of (sign_text negative ++ with_point ds down)) (made negative (digits_value 10 ds) 0 down)
unfolding with_point
with_point_reads negative ds down d some = go (nat_lt down (length ds)) refl
  where
    go : (b : Bool) → nat_lt down (length ds) ≡ b
        → AreEqual (decimal_of (sign_text negative ++ cond b (take (length ds - down) ds ++ 46 ∷ drop (length ds - down) ds) (48 ∷ 46 ∷ (zeros (down - length ds) ++ ds)))) (made negative (digits_value 10 ds) 0 down)
    go true e =
        let less : down < length ds = grind (arith, nat_tests) in
        let k : ℕ = length ds - down in
        point_reads negative (take k ds) (drop k ds) (digits_value 10 ds) down (AllDigits-take k ds d) (AllDigits-drop k ds d) (omega (arith, less, length-take k ds))
        (ap (digits_value 10) (take-append-drop k ds)) (omega (arith, less, length-drop k ds))
    go false e =
        let more : length ds ≤ down = grind (arith, nat_tests) in
        let k : ℕ = down - length ds in
        point_reads negative (48 ∷ []) (zeros k ++ ds) (digits_value 10 ds) down (omega arith, tt) (AllDigits-append (zeros k) ds (zeros-digits k) d) (omega arith)
        (value-before k ds) (omega (arith, more, length-append (zeros k) ds, length-replicate {A = ℕ} k 48))

digits_read : (negative : Bool) (ds : List ℕ) (up down : ℕ) → AllDigits 10 ds → 0 < length ds → (0 < down → up ≡ 0)
    → AreEqual (decimal_of (sign_text negative ++ plain_digits ds up down)) (made negative (digits_value 10 ds) up down)
unfolding plain_digits
digits_read negative ds up down d some one = go (nat_lt 0 down) refl
  where
    go : (b : Bool) → nat_lt 0 down ≡ b → AreEqual (decimal_of (sign_text negative ++ cond b (with_point ds down) (ds ++ zeros up))) (made negative (digits_value 10 ds) up down)
    go true e =
        let above : 0 < down = grind (arith, nat_tests) in
        subst (λ (u : ℕ). AreEqual (decimal_of (sign_text negative ++ with_point ds down)) (made negative (digits_value 10 ds) u down)) (sym (one above)) (with_point_reads negative ds down d some)
    go false e =
        let none : down ≡ 0 = grind (arith, nat_tests) in
        subst (λ (n : ℕ). AreEqual (decimal_of (sign_text negative ++ (ds ++ zeros up))) (made negative (digits_value 10 ds) up n)) (sym none) (whole_reads negative ds up d some)

-- ---- short texts

no_items : (l : List ℕ) → length l ≡ 0 → l ≡ []
no_items [] e = refl
no_items (x ∷ l) e = absurd (omega arith)

one_side : (b : Bool) (fraction exponent : ℕ) → fraction ≡ 0 → 0 < fraction + cond b exponent 0 → cond b 0 exponent ≡ 0
one_side true fraction exponent e h = refl
one_side false fraction exponent e h = absurd (omega arith)

short_reads : (s : List ℕ) → is_short (parts_of s) ≡ true
    → AreEqual (decimal_of (sign_text (is_negative s) ++ plain_digits (parts_of s).whole (tens_up (parts_of s)) (tens_down (parts_of s)))) (decimal_of s)
unfolding decimal_of
short_reads s h =
    let p : Parts = parts_of s in
    let told = short-digits p h in
    let none : p.fraction ≡ [] = no_items p.fraction told.1 in
    let value : digits_value 10 (p.whole ++ p.fraction) ≡ digits_value 10 p.whole = ap (λ f. digits_value 10 (p.whole ++ f)) none ∙ ap (digits_value 10) (append-nil p.whole) in
    subst (λ (v : ℕ). AreEqual (decimal_of (sign_text (is_negative s) ++ plain_digits p.whole (tens_up p) (tens_down p))) (made (is_negative s) v (tens_up p) (tens_down p))) (sym value)
    (digits_read (is_negative s) p.whole (tens_up p) (tens_down p) (scan_numeral-AllDigits (unsigned s)).0 told.0 (one_side p.exponent_negative (length p.fraction) (digits_value 10 p.exponent) told.1))

-- ---- other texts

low_digits : (ds : List ℕ) → AllDigits 10 ds → list_all is_low ds ≡ true
low_digits [] d = refl
low_digits (c ∷ cs) d =
    let r = digit_from_value c d.0 in
    let low : is_low c ≡ true = grind (arith, nat_tests) in
    rw low (low_digits cs d.1)

low_append : (xs ys : List ℕ) → list_all is_low xs ≡ true → list_all is_low ys ≡ true → list_all is_low (xs ++ ys) ≡ true
low_append xs ys p q = list_all-append is_low xs ys ∙ rw (p, q) refl

low_sign : (negative : Bool) → list_all is_low (sign_text negative) ≡ true
low_sign true = refl
low_sign false = refl

low_tens : (up down : ℕ) → list_all is_low (tens_text up down) ≡ true
unfolding tens_text
low_tens zero zero = refl
low_tens zero (suc down) = low_digits (digits_text (suc down)) (digits_text-IsSpelled (suc down)).digits
low_tens (suc up) down = low_digits (digits_text (suc up)) (digits_text-IsSpelled (suc up)).digits

low_number : (n : Decimal) → list_all is_low (number_text n) ≡ true
unfolding number_text
low_number n =
    low_append (sign_text n.negative ++ digits_text n.coefficient) (tens_text n.up n.down)
    (low_append (sign_text n.negative) (digits_text n.coefficient) (low_sign n.negative) (low_digits (digits_text n.coefficient) (digits_text-IsSpelled n.coefficient).digits)) (low_tens n.up n.down)

plain_same : (xs : List ℕ) → list_all is_low xs ≡ true → plain_json xs ≡ xs
unfolding plain_json
plain_same [] low = refl
plain_same (x ∷ xs) low = ap (plain_behind 0) (sym (append-nil (x ∷ xs))) ∙ low_run 0 (x ∷ xs) [] low ∙ append-nil (x ∷ xs)

plain_number : (s : List ℕ) → plain_json (normal_number s) ≡ normal_number s
unfolding normal_number
plain_number s = plain_same (number_text (normal_of (decimal_of s))) (low_number (normal_of (decimal_of s)))

-- ---- printed texts

value_reads : (s : List ℕ) → plain_json s ≡ s → AreEqual (decimal_of (value_text s)) (decimal_of s)
unfolding value_text
value_reads s same = go (is_short (parts_of s)) refl
  where
    go : (b : Bool) → is_short (parts_of s) ≡ b
        → AreEqual (decimal_of (cond b (sign_text (is_negative s) ++ plain_digits (parts_of s).whole (tens_up (parts_of s)) (tens_down (parts_of s))) (plain_json s))) (decimal_of s)
    go true e = short_reads s e
    go false e = subst (λ (t : List ℕ). AreEqual (decimal_of t) (decimal_of s)) (sym same) (record { size = refl; sign = inr refl })

normal_reads : (s : List ℕ) → AreEqual (decimal_of (normal_number s)) (decimal_of s)
unfolding normal_number
normal_reads s =
    let a : Decimal = decimal_of s in
    subst (λ (n : Decimal). AreEqual n a) (sym (reads_back (normal_of a) (has_form a).0)) (has_form a).1

pub key_reads : (s : List ℕ) → AreEqual (decimal_of (value_text (normal_number s))) (decimal_of s)
key_reads s =
    passes (decimal_of (value_text (normal_number s))) (decimal_of (normal_number s)) (decimal_of s) (value_reads (normal_number s) (plain_number s)) (normal_reads s)

pub keys_tell : (s t : List ℕ) → AreEqual (decimal_of s) (decimal_of t) ↔ (value_text (normal_number s) ≡ value_text (normal_number t))
keys_tell s t = (
  λ e. ap value_text ((texts_tell s t).0 e),
  λ e. by_forms (decimal_of s) (decimal_of t) (decimal_of (value_text (normal_number s))) (decimal_of (value_text (normal_number t))) (key_reads s) (key_reads t) (ap decimal_of e),
)
