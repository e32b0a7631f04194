-- A number of JSON has bytes below 128 alone.
use Rattle.std.proofs.Common.{◌≡◌, ◌∙◌, ℕ, suc, ◌+◌, ◌<◌, Bool, true, false, cond, ◌||◌, ◌==◌, List, [], ◌∷◌, drop, Option, Some, None, option_and_then, IsAscii, IsUtf8, refl, sym, ap, subst, arith}
use Rattle.std.proofs.lemmas.Bool.{eqb-true}
use Rattle.std.proofs.lemmas.Str.{IsUtf8-from_ascii}
use Rattle.std.proofs.lemmas.Str.Ascii.{IsAscii-nil, IsAscii-cons}
use Rattle.fast_float.proofs.DigitsLemmas.{digit_range}
use Rattle.std.specs.Char.{is_ascii_digit}
use Rattle.std.specs.List.{prefix_len}
use Rattle.json.specs.Print.{IsNumber}
use Rattle.json.specs.Word.{head, after_digits, after_minus, after_sign, after_whole, after_fraction, after_exponent, after_number}

-- a text is ASCII where its rest is
abbrev Passes : List ℕ → List ℕ → Type 0
Passes t r = IsAscii r → IsAscii t

some_one : {A : Type 0} (x y : A) → Some x ≡ Some y → x ≡ y
some_one x y e = cc

-- what digits leave
dropped : (t : List ℕ) → Passes t (drop (prefix_len is_ascii_digit t) t)
dropped [] a = a
dropped (x ∷ xs) a = go (dropped xs) (is_ascii_digit x) refl a
  where
    go : Passes xs (drop (prefix_len is_ascii_digit xs) xs) → (b : Bool) → is_ascii_digit x ≡ b → IsAscii (drop (cond b (1 + prefix_len is_ascii_digit xs) 0) (x ∷ xs)) → IsAscii (x ∷ xs)
    go rest true e h =
        let range = digit_range x e in
        let one : 1 + prefix_len is_ascii_digit xs ≡ suc (prefix_len is_ascii_digit xs) = omega arith in
        IsAscii-cons x xs (omega (arith, range.0, range.1)) (rest (subst (λ n. IsAscii (drop n (x ∷ xs))) one h))
    go rest false e h = h

digits_pass : (t r : List ℕ) → after_digits t ≡ Some r → Passes t r
digits_pass t r e = go (prefix_len is_ascii_digit t == 0) e
  where
    go : (b : Bool) → cond b None (Some (drop (prefix_len is_ascii_digit t) t)) ≡ Some r → Passes t r
    go true h = absurd (cc)
    go false h = λ a. dropped t (subst IsAscii (sym (some_one _ _ h)) a)

-- one byte at the front that is known
one_pass : (t : List ℕ) (c : ℕ) → c < 128 → (head t == c) ≡ true → Passes t (drop 1 t)
one_pass [] c small e a = IsAscii-nil
one_pass (x ∷ xs) c small e a = IsAscii-cons x xs (omega (arith, small, eqb-true x c e)) a

minus_pass : (t : List ℕ) → Passes t (after_minus t)
minus_pass t = go (head t == 45) refl
  where
    go : (b : Bool) → (head t == 45) ≡ b → IsAscii (cond b (drop 1 t) t) → IsAscii t
    go true e a = one_pass t 45 (omega arith) e a
    go false e a = a

sign_pass : (t : List ℕ) → Passes t (after_sign t)
sign_pass t = go (head t == 45) (head t == 43) refl refl
  where
    go : (b c : Bool) → (head t == 45) ≡ b → (head t == 43) ≡ c → IsAscii (cond (b || c) (drop 1 t) t) → IsAscii t
    go true c e f a = one_pass t 45 (omega arith) e a
    go false true e f a = one_pass t 43 (omega arith) f a
    go false false e f a = a

whole_pass : (t r : List ℕ) → after_whole t ≡ Some r → Passes t r
whole_pass t r = go (head t == 48) refl
  where
    go : (b : Bool) → (head t == 48) ≡ b → cond b (Some (drop 1 t)) (after_digits t) ≡ Some r → Passes t r
    go true e h = λ a. one_pass t 48 (omega arith) e (subst IsAscii (sym (some_one _ _ h)) a)
    go false e h = digits_pass t r h

fraction_pass : (t r : List ℕ) → after_fraction t ≡ Some r → Passes t r
fraction_pass t r = go (head t == 46) refl
  where
    go : (b : Bool) → (head t == 46) ≡ b → cond b (after_digits (drop 1 t)) (Some t) ≡ Some r → Passes t r
    go true e h = λ a. one_pass t 46 (omega arith) e (digits_pass (drop 1 t) r h a)
    go false e h = λ a. subst IsAscii (sym (some_one _ _ h)) a

exponent_pass : (t r : List ℕ) → after_exponent t ≡ Some r → Passes t r
exponent_pass t r = go (head t == 101) (head t == 69) refl refl
  where
    go : (b c : Bool) → (head t == 101) ≡ b → (head t == 69) ≡ c → cond (b || c) (after_digits (after_sign (drop 1 t))) (Some t) ≡ Some r → Passes t r
    go true c e f h = λ a. one_pass t 101 (omega arith) e (sign_pass (drop 1 t) (digits_pass (after_sign (drop 1 t)) r h a))
    go false true e f h = λ a. one_pass t 69 (omega arith) f (sign_pass (drop 1 t) (digits_pass (after_sign (drop 1 t)) r h a))
    go false false e f h = λ a. subst IsAscii (sym (some_one _ _ h)) a

then_passes : (f g : List ℕ → Option (List ℕ)) → ((t r : List ℕ) → f t ≡ Some r → Passes t r) → ((t r : List ℕ) → g t ≡ Some r → Passes t r)
    → (t r : List ℕ) → option_and_then g (f t) ≡ Some r → Passes t r
then_passes f g p q t r = go (f t) refl
  where
    go : (o : Option (List ℕ)) → f t ≡ o → option_and_then g o ≡ Some r → Passes t r
    go None e h = absurd (cc)
    go (Some s) e h = λ a. p t s e (q s r h a)

pub IsUtf8-number : (s : List ℕ) → IsNumber s → IsUtf8 s
unfolding after_number
IsUtf8-number s h =
    IsUtf8-from_ascii s (minus_pass s (then_passes (λ t. option_and_then after_fraction (after_whole t)) after_exponent
    (then_passes after_whole after_fraction whole_pass fraction_pass) exponent_pass (after_minus s) [] h IsAscii-nil))
