-- A number of JSON is written as it is.
use Rattle.std.proofs.Common.{◌≡◌, ℕ, suc, ◌+◌, Bool, true, false, cond, ◌&&◌, ◌||◌, ◌==◌, not, nat_lt, List, [], ◌∷◌, drop, Option, Some, None, option_and_then, inl, inr, refl, ap, sym, ◌∙◌, arith}
use Rattle.std.proofs.lemmas.Bool.{eqb-true, or_cases}
use Rattle.std.proofs.lemmas.Bool.Decides.{nat_tests}
use Rattle.std.specs.Char.{is_ascii_digit}
use Rattle.std.specs.List.{list_all, prefix_len}
use Rattle.json.specs.Print.{IsNumber}
use Rattle.json.specs.Word.{after_digits, after_exponent, after_fraction, after_minus, after_number, after_sign, after_whole, head}

-- a byte below 127 that is no mark of Markdown
abbrev pub is_low : ℕ → Bool
is_low b = nat_lt b 127 && not (b == 96) && not (b == 124)

-- what a part of the grammar leaves of a text: such bytes alone where the text has such bytes alone, and only there
abbrev Keeps : List ℕ → Option (List ℕ) → Type 0
Keeps t None = Unit {0}
Keeps t (Some r) = list_all is_low r ≡ list_all is_low t

keeps_one : (c : ℕ) → is_low c ≡ true → (t : List ℕ) → (head t == c) ≡ true → list_all is_low (drop 1 t) ≡ list_all is_low t
keeps_one c low [] h = refl
keeps_one c low (x ∷ xs) h = let same : x ≡ c = eqb-true x c h in rw (same, low) refl

digit_low : (x : ℕ) → is_ascii_digit x ≡ true → is_low x ≡ true
digit_low x h = grind (arith, nat_tests)

keeps_digits : (t : List ℕ) → list_all is_low (drop (prefix_len is_ascii_digit t) t) ≡ list_all is_low t
keeps_digits [] = refl
keeps_digits (x ∷ xs) = go (is_ascii_digit x) refl (keeps_digits xs)
  where
    go : (b : Bool) → is_ascii_digit x ≡ b → list_all is_low (drop (prefix_len is_ascii_digit xs) xs) ≡ list_all is_low xs
        → list_all is_low (drop (cond b (1 + prefix_len is_ascii_digit xs) 0) (x ∷ xs)) ≡ list_all is_low (x ∷ xs)
    go true e rest =
        let next : 1 + prefix_len is_ascii_digit xs ≡ suc (prefix_len is_ascii_digit xs) = omega arith in
        ap (λ n. list_all is_low (drop n (x ∷ xs))) next ∙ rw (digit_low x e) rest
    go false e rest = refl

keeps_some : (t u : List ℕ) (o : Option (List ℕ)) → list_all is_low u ≡ list_all is_low t → Keeps u o → Keeps t o
keeps_some t u None e h = tt
keeps_some t u (Some r) e h = h ∙ e

keeps_then : (t : List ℕ) (f : List ℕ → Option (List ℕ)) → ((u : List ℕ) → Keeps u (f u)) → (o : Option (List ℕ)) → Keeps t o → Keeps t (option_and_then f o)
keeps_then t f each None h = tt
keeps_then t f each (Some u) h = keeps_some t u (f u) h (each u)

after_digits_keeps : (t : List ℕ) → Keeps t (after_digits t)
after_digits_keeps t = go (prefix_len is_ascii_digit t == 0)
  where
    go : (b : Bool) → Keeps t (cond b None (Some (drop (prefix_len is_ascii_digit t) t)))
    go true = tt
    go false = keeps_digits t

after_whole_keeps : (t : List ℕ) → Keeps t (after_whole t)
after_whole_keeps t = go (head t == 48) refl
  where
    go : (b : Bool) → (head t == 48) ≡ b → Keeps t (cond b (Some (drop 1 t)) (after_digits t))
    go true e = keeps_one 48 refl t e
    go false e = after_digits_keeps t

after_minus_keeps : (t : List ℕ) → list_all is_low (after_minus t) ≡ list_all is_low t
after_minus_keeps t = go (head t == 45) refl
  where
    go : (b : Bool) → (head t == 45) ≡ b → list_all is_low (cond b (drop 1 t) t) ≡ list_all is_low t
    go true e = keeps_one 45 refl t e
    go false e = refl

-- one of two bytes is dropped
keeps_either : (c d : ℕ) → is_low c ≡ true → is_low d ≡ true → (t : List ℕ) → ((head t == c) || (head t == d)) ≡ true → list_all is_low (drop 1 t) ≡ list_all is_low t
keeps_either c d low_c low_d t h = elim (or_cases (head t == c) (head t == d) h) [ inl e ↦ keeps_one c low_c t e | inr e ↦ keeps_one d low_d t e ]

after_sign_keeps : (t : List ℕ) → list_all is_low (after_sign t) ≡ list_all is_low t
after_sign_keeps t = go ((head t == 45) || (head t == 43)) refl
  where
    go : (b : Bool) → ((head t == 45) || (head t == 43)) ≡ b → list_all is_low (cond b (drop 1 t) t) ≡ list_all is_low t
    go true e = keeps_either 45 43 refl refl t e
    go false e = refl

after_fraction_keeps : (t : List ℕ) → Keeps t (after_fraction t)
after_fraction_keeps t = go (head t == 46) refl
  where
    go : (b : Bool) → (head t == 46) ≡ b → Keeps t (cond b (after_digits (drop 1 t)) (Some t))
    go true e = keeps_some t (drop 1 t) (after_digits (drop 1 t)) (keeps_one 46 refl t e) (after_digits_keeps (drop 1 t))
    go false e = refl

after_exponent_keeps : (t : List ℕ) → Keeps t (after_exponent t)
after_exponent_keeps t = go ((head t == 101) || (head t == 69)) refl
  where
    go : (b : Bool) → ((head t == 101) || (head t == 69)) ≡ b → Keeps t (cond b (after_digits (after_sign (drop 1 t))) (Some t))
    go true e =
        keeps_some t (after_sign (drop 1 t)) (after_digits (after_sign (drop 1 t))) (after_sign_keeps (drop 1 t) ∙ keeps_either 101 69 refl refl t e)
        (after_digits_keeps (after_sign (drop 1 t)))
    go false e = refl

number_keeps : (t : List ℕ) → Keeps t (after_number t)
unfolding after_number
number_keeps t =
    keeps_then t after_exponent after_exponent_keeps (option_and_then after_fraction (after_whole (after_minus t)))
    (keeps_then t after_fraction after_fraction_keeps (after_whole (after_minus t))
    (keeps_some t (after_minus t) (after_whole (after_minus t)) (after_minus_keeps t) (after_whole_keeps (after_minus t))))

-- a number has such bytes alone
pub number_low : (s : List ℕ) → IsNumber s → list_all is_low s ≡ true
number_low s h = go (after_number s) (number_keeps s) h
  where
    go : (o : Option (List ℕ)) → Keeps s o → o ≡ Some [] → list_all is_low s ≡ true
    go None k e = absurd (cc)
    go (Some []) k e = sym k
    go (Some (x ∷ r)) k e = absurd (cc)
