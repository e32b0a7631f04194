-- The decimal of a number of JSON is read from the whole of its text.
use Rattle.std.proofs.Common.{◌≡◌, ℕ, suc, ◌+◌, ◌≤◌, Bool, true, false, cond, ◌&&◌, ◌||◌, ◌==◌, List, [], ◌∷◌, length, get_or, drop, Option, Some, None, option_and_then, refl, sym, ap, ◌∙◌, arith, length-drop, drop-drop, get_or-drop}
use Rattle.std.proofs.lemmas.Bool.{ne_eqb, eqb-true}
use Rattle.std.proofs.lemmas.List.Sums.{prefix_len-le-length}
use Rattle.fast_float.proofs.DigitsLemmas.{digit_range}
use Rattle.std.specs.Char.{is_ascii_digit}
use Rattle.std.specs.List.{prefix_len}
use Rattle.fast_float.specs.Text.{scan}
use Rattle.json.specs.Print.{IsNumber}
use Rattle.json.specs.Word.{head, after_digits, after_whole, after_fraction, after_exponent, after_number}
use Rattle.json_decimals.specs.Decimals.{parts_of, unsigned}

abbrev digits_len : List ℕ → ℕ
digits_len = prefix_len is_ascii_digit

-- what digits leave
record Digits (u r : List ℕ) : Type 0 where
  first : is_ascii_digit (get_or u 0 0) ≡ true
  rest : r ≡ drop (digits_len u) u

some_one : {A : Type 0} (x y : A) → Some x ≡ Some y → x ≡ y
some_one x y e = cc

digits_go : (x : ℕ) (xs r : List ℕ) (n : ℕ) (b : Bool) → is_ascii_digit x ≡ b → cond (cond b (1 + n) 0 == 0) None (Some (drop (cond b (1 + n) 0) (x ∷ xs))) ≡ Some r
    → (is_ascii_digit x ≡ true) × (r ≡ drop (cond b (1 + n) 0) (x ∷ xs))
digits_go x xs r n true e h =
    let full : Some (drop (1 + n) (x ∷ xs)) ≡ Some r = sym (ap (λ b. cond b None (Some (drop (1 + n) (x ∷ xs)))) (ne_eqb (1 + n) 0 (λ z. omega arith))) ∙ h in
    (e, sym (some_one _ _ full))
digits_go x xs r n false e h = absurd (cc)

digits_of : (u r : List ℕ) → after_digits u ≡ Some r → Digits u r
digits_of [] r h = absurd (cc)
digits_of (x ∷ xs) r h = let g = digits_go x xs r (digits_len xs) (is_ascii_digit x) refl h in record { first = g.0; rest = g.1 }

all_digits : (u : List ℕ) → [] ≡ drop (digits_len u) u → digits_len u ≡ length u
all_digits u e = omega (arith, ap length e, length-drop (digits_len u) u, prefix_len-le-length is_ascii_digit u)

-- how many bytes an exponent takes at the front
abbrev start_of : List ℕ → ℕ
start_of r = cond ((get_or r 1 0 == 45) || (get_or r 1 0 == 43)) 2 1

abbrev exponent_len : List ℕ → ℕ
exponent_len r = cond (((get_or r 0 0 == 101) || (get_or r 0 0 == 69)) && is_ascii_digit (get_or r (start_of r) 0)) (start_of r + digits_len (drop (start_of r) r)) 0

signed_go : (x y : ℕ) (ys : List ℕ) (s : Bool) → after_digits (cond s ys (y ∷ ys)) ≡ Some []
    → cond (is_ascii_digit (get_or (x ∷ y ∷ ys) (cond s 2 1) 0)) (cond s 2 1 + digits_len (drop (cond s 2 1) (x ∷ y ∷ ys))) 0 ≡ length (x ∷ y ∷ ys)
signed_go x y ys true h =
    let d = digits_of ys [] h in
    ap (λ b. cond b (2 + digits_len ys) 0) d.first ∙ omega (arith, all_digits ys d.rest)
signed_go x y ys false h =
    let d = digits_of (y ∷ ys) [] h in
    ap (λ b. cond b (1 + digits_len (y ∷ ys)) 0) d.first ∙ omega (arith, all_digits (y ∷ ys) d.rest)

exponent_go : (x : ℕ) (xs : List ℕ) (e : Bool) → cond e (after_digits (cond ((head xs == 45) || (head xs == 43)) (drop 1 xs) xs)) (Some (x ∷ xs)) ≡ Some []
    → cond (e && is_ascii_digit (get_or (x ∷ xs) (start_of (x ∷ xs)) 0)) (start_of (x ∷ xs) + digits_len (drop (start_of (x ∷ xs)) (x ∷ xs))) 0 ≡ length (x ∷ xs)
exponent_go x xs false h = absurd (cc)
exponent_go x [] true h = absurd (cc)
exponent_go x (y ∷ ys) true h = signed_go x y ys ((y == 45) || (y == 43)) h

exponent_is : (r : List ℕ) → after_exponent r ≡ Some [] → exponent_len r ≡ length r
exponent_is [] h = refl
exponent_is (x ∷ xs) h = exponent_go x xs ((x == 101) || (x == 69)) h

-- how many bytes a fraction takes at the front
abbrev fraction_len : List ℕ → ℕ
fraction_len r = cond (get_or r 0 0 == 46) (1 + digits_len (drop 1 r)) 0

within_digits : (u : List ℕ) → digits_len u ≤ length u
within_digits u = prefix_len-le-length is_ascii_digit u

fraction_go : (x : ℕ) (xs r : List ℕ) (p : Bool) → cond p (after_digits xs) (Some (x ∷ xs)) ≡ Some r → r ≡ drop (cond p (1 + digits_len xs) 0) (x ∷ xs)
fraction_go x xs r true h = (digits_of xs r h).rest ∙ more (digits_len xs)
  where
    more : (n : ℕ) → drop n xs ≡ drop (1 + n) (x ∷ xs)
    more n = let up : 1 + n ≡ suc n = omega arith in ap (λ k. drop k (x ∷ xs)) (sym up)
fraction_go x xs r false h = sym (some_one _ _ h)

fraction_is : (u r : List ℕ) → after_fraction u ≡ Some r → r ≡ drop (fraction_len u) u
fraction_is [] r h = sym (some_one _ _ h)
fraction_is (x ∷ xs) r h = fraction_go x xs r (x == 46) h

-- ---- the parts that are scanned

exponent_end : (t : List ℕ) (b k : ℕ) (e : Bool)
    → cond (e && is_ascii_digit (get_or t (b + k) 0)) (b + k + digits_len (drop (b + k) t)) b ≡ b + cond (e && is_ascii_digit (get_or (drop b t) k 0)) (k + digits_len (drop k (drop b t))) 0
exponent_end t b k e =
    let same : drop k (drop b t) ≡ drop (b + k) t = drop-drop k b t in
    let digit : get_or (drop b t) k 0 ≡ get_or t (b + k) 0 = get_or-drop b t k 0 in
    by (e && is_ascii_digit (get_or t (b + k) 0)) ∙ ap (λ x. b + cond (e && is_ascii_digit x) (k + digits_len (drop (b + k) t)) 0) (sym digit)
    ∙ ap (λ x. b + cond (e && is_ascii_digit (get_or (drop b t) k 0)) (k + digits_len x) 0) (sym same)
  where
    by : (c : Bool) → cond c (b + k + digits_len (drop (b + k) t)) b ≡ b + cond c (k + digits_len (drop (b + k) t)) 0
    by true = omega arith
    by false = omega arith

scan_go : (t : List ℕ) (b : ℕ) (e s : Bool)
    → cond (e && is_ascii_digit (get_or t (cond s (b + 2) (b + 1)) 0)) (cond s (b + 2) (b + 1) + digits_len (drop (cond s (b + 2) (b + 1)) t)) b
    ≡ b + cond (e && is_ascii_digit (get_or (drop b t) (cond s 2 1) 0)) (cond s 2 1 + digits_len (drop (cond s 2 1) (drop b t))) 0
scan_go t b e true = exponent_end t b 2 e
scan_go t b e false = exponent_end t b 1 e

abbrev marks : ℕ → Bool
marks x = (x == 101) || (x == 69)

abbrev signs : ℕ → Bool
signs x = (x == 45) || (x == 43)

scanned_end : (t : List ℕ) (b : ℕ)
    → cond (marks (get_or t b 0) && is_ascii_digit (get_or t (cond (signs (get_or t (b + 1) 0)) (b + 2) (b + 1)) 0)) (cond (signs (get_or t (b + 1) 0)) (b + 2) (b + 1) + digits_len (drop (cond (signs (get_or t (b + 1) 0)) (b + 2) (b + 1)) t)) b
    ≡ b + exponent_len (drop b t)
scanned_end t b =
    let none : b + 0 ≡ b = omega arith in
    let mark : get_or t b 0 ≡ get_or (drop b t) 0 0 = sym (get_or-drop b t 0 0 ∙ ap (λ k. get_or t k 0) none) in
    let sign : get_or t (b + 1) 0 ≡ get_or (drop b t) 1 0 = sym (get_or-drop b t 1 0) in
    ap (λ x. cond (marks x && is_ascii_digit (get_or t (cond (signs (get_or t (b + 1) 0)) (b + 2) (b + 1)) 0)) (cond (signs (get_or t (b + 1) 0)) (b + 2) (b + 1) + digits_len (drop (cond (signs (get_or t (b + 1) 0)) (b + 2) (b + 1)) t)) b) mark
    ∙ ap (λ x. cond (marks (get_or (drop b t) 0 0) && is_ascii_digit (get_or t (cond (signs x) (b + 2) (b + 1)) 0)) (cond (signs x) (b + 2) (b + 1) + digits_len (drop (cond (signs x) (b + 2) (b + 1)) t)) b) sign
    ∙ scan_go t b (marks (get_or (drop b t) 0 0)) (signs (get_or (drop b t) 1 0))

fraction_end : (t : List ℕ) (a : ℕ) → cond (get_or t a 0 == 46) (a + 1 + digits_len (drop (a + 1) t)) a ≡ a + fraction_len (drop a t)
fraction_end t a =
    let none : a + 0 ≡ a = omega arith in
    let point : get_or t a 0 ≡ get_or (drop a t) 0 0 = sym (get_or-drop a t 0 0 ∙ ap (λ k. get_or t k 0) none) in
    let same : drop 1 (drop a t) ≡ drop (a + 1) t = drop-drop 1 a t in
    by (get_or t a 0 == 46) ∙ ap (λ x. a + cond (x == 46) (1 + digits_len (drop (a + 1) t)) 0) point ∙ ap (λ x. a + cond (get_or (drop a t) 0 0 == 46) (1 + digits_len x) 0) (sym same)
  where
    by : (c : Bool) → cond c (a + 1 + digits_len (drop (a + 1) t)) a ≡ a + cond c (1 + digits_len (drop (a + 1) t)) 0
    by true = omega arith
    by false = omega arith

-- where the exponent begins
abbrev end_of : List ℕ → ℕ
end_of t = digits_len t + fraction_len (drop (digits_len t) t)

scanned : (t : List ℕ) → (scan t).len ≡ end_of t + exponent_len (drop (end_of t) t)
unfolding scan
scanned t =
    let a : ℕ = 0 + digits_len (drop 0 t) in
    let b : ℕ = cond (get_or t a 0 == 46) (a + 1 + digits_len (drop (a + 1) t)) a in
    let from : a ≡ digits_len t = omega arith in
    let end : b ≡ end_of t = fraction_end t a ∙ ap (λ k. k + fraction_len (drop k t)) from in
    scanned_end t b ∙ ap (λ k. k + exponent_len (drop k t)) end

-- ---- a number of JSON

-- digits do not follow a zero
alone : (xs r : List ℕ) → after_fraction xs ≡ Some r → after_exponent r ≡ Some [] → digits_len xs ≡ 0
alone [] r f e = refl
alone (y ∷ ys) r f e = by (is_ascii_digit y) refl
  where
    by : (b : Bool) → is_ascii_digit y ≡ b → cond b (1 + digits_len ys) 0 ≡ 0
    by false d = refl
    by true d =
        let range = digit_range y d in
        let all : r ≡ y ∷ ys = fraction_is (y ∷ ys) r f ∙ ap (λ b. drop (cond b (1 + digits_len ys) 0) (y ∷ ys)) (ne_eqb y 46 (λ z. omega arith)) in
        let end : after_exponent (y ∷ ys) ≡ Some [] = sym (ap after_exponent all) ∙ e in
        let never : cond ((y == 101) || (y == 69)) (after_digits (cond ((head ys == 45) || (head ys == 43)) (drop 1 ys) ys)) (Some (y ∷ ys)) ≡ Some (y ∷ ys) =
        ap (λ b. cond (b || (y == 69)) (after_digits (cond ((head ys == 45) || (head ys == 43)) (drop 1 ys) ys)) (Some (y ∷ ys))) (ne_eqb y 101 (λ z. omega arith))
        ∙ ap (λ b. cond b (after_digits (cond ((head ys == 45) || (head ys == 43)) (drop 1 ys) ys)) (Some (y ∷ ys))) (ne_eqb y 69 (λ z. omega arith)) in
        let long : length (y ∷ ys) ≡ 0 = ap length (some_one _ _ (sym never ∙ end)) in
        absurd (omega arith)

whole_go : (x : ℕ) (xs r q : List ℕ) (z : Bool) → (x == 48) ≡ z → cond z (Some xs) (after_digits (x ∷ xs)) ≡ Some r → after_fraction r ≡ Some q → after_exponent q ≡ Some [] → r ≡ drop (digits_len (x ∷ xs)) (x ∷ xs)
whole_go x xs r q false e h f g = (digits_of (x ∷ xs) r h).rest
whole_go x xs r q true e h f g =
    let same : xs ≡ r = some_one _ _ h in
    let none : digits_len xs ≡ 0 = alone xs q (ap after_fraction same ∙ f) g in
    let is : x ≡ 48 = eqb-true x 48 e in
    let one : digits_len (x ∷ xs) ≡ 1 = ap (λ y. cond (is_ascii_digit y) (1 + digits_len xs) 0) is ∙ omega (arith, none) in
    sym same ∙ ap (λ k. drop k (x ∷ xs)) (sym one)

whole_is : (t r q : List ℕ) → after_whole t ≡ Some r → after_fraction r ≡ Some q → after_exponent q ≡ Some [] → r ≡ drop (digits_len t) t
whole_is [] r q h f g = absurd (cc)
whole_is (x ∷ xs) r q h f g = whole_go x xs r q (x == 48) refl h f g

fraction_within : (r : List ℕ) → fraction_len r ≤ length r
fraction_within [] = omega arith
fraction_within (x ∷ xs) = by (x == 46)
  where
    by : (p : Bool) → cond p (1 + digits_len xs) 0 ≤ length (x ∷ xs)
    by true = omega (arith, within_digits xs)
    by false = omega arith

-- what a chain of steps went through
step : (f : List ℕ → Option (List ℕ)) (o : Option (List ℕ)) (z : List ℕ) → option_and_then f o ≡ Some z → (x : List ℕ) × (o ≡ Some x) × (f x ≡ Some z)
step f None z h = absurd (cc)
step f (Some x) z h = (x, refl, h)

unsigned_whole : (t : List ℕ) → option_and_then after_exponent (option_and_then after_fraction (after_whole t)) ≡ Some [] → (scan t).len ≡ length t
unsigned_whole t h =
    let e = step after_exponent (option_and_then after_fraction (after_whole t)) [] h in
    let f = step after_fraction (after_whole t) e.0 e.1 in
    let whole : f.0 ≡ drop (digits_len t) t = whole_is t f.0 e.0 f.1 f.2 e.2 in
    let fraction : e.0 ≡ drop (fraction_len f.0) f.0 = fraction_is f.0 e.0 f.2 in
    let rest : e.0 ≡ drop (end_of t) t = fraction ∙ ap (λ r. drop (fraction_len r) r) whole ∙ drop-drop (fraction_len (drop (digits_len t) t)) (digits_len t) t in
    let exponent : exponent_len (drop (end_of t) t) ≡ length (drop (end_of t) t) = exponent_is (drop (end_of t) t) (ap after_exponent (sym rest) ∙ e.2) in
    let inside = fraction_within (drop (digits_len t) t) in
    scanned t ∙ omega (arith, exponent, length-drop (end_of t) t, length-drop (digits_len t) t, within_digits t)

pub read_whole : (s : List ℕ) → IsNumber s → (parts_of s).len ≡ length (unsigned s)
unfolding after_number
read_whole [] h = unsigned_whole [] h
read_whole (x ∷ xs) h = unsigned_whole (cond (x == 45) xs (x ∷ xs)) h
