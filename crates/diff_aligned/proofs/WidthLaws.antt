-- Laws: how wide cut texts and lines are.
use Rattle.std.proofs.Common.{◌≡◌, ◌<◌, ◌≤◌, ◌+◌, ◌-◌, ◌/◌, ℕ, zero, suc, Bool, true, false, cond, List, [], ◌∷◌, ◌++◌, nat_le, nat_lt, arith, ap, refl}
use Rattle.std.proofs.lemmas.Bool.{and_parts}
use Rattle.std.proofs.lemmas.Bool.Decides.{nat_tests}
use Rattle.std.proofs.lemmas.List.Elements.{All-cons, All-nil}
use Rattle.std.specs.Prelude.{All}
use Rattle.unicode_width.proofs.Computing.{unicode_width}
use Rattle.diff_widths.specs.Cut.{beginning, char_columns, cut, ending, filler, is_end, padded, shortened, spaces, width}
use Rattle.diff_aligned.specs.Paragraphs.{filled, paragraph}

pub width-append : (xs ys : List ℕ) → width (xs ++ ys) ≡ width xs + width ys
width-append [] ys = omega arith
width-append (x ∷ xs) ys = omega (arith, width-append xs ys)

space_columns : char_columns 32 ≡ 1
unfolding char_columns unicode_width
space_columns = refl

dots_columns : char_columns 0x2026 ≡ 1
unfolding char_columns unicode_width
dots_columns = refl

pub width-spaces : (n : ℕ) → width (spaces n) ≡ n
width-spaces zero = refl
width-spaces (suc n) = omega (arith, space_columns, width-spaces n)

le_true : (a b : ℕ) → nat_le a b ≡ true → a ≤ b
le_true a b h = grind (arith, nat_tests)

le_false : (a b : ℕ) → nat_le a b ≡ false → b < a
le_false a b h = grind (arith, nat_tests)

lt_true : (a b : ℕ) → nat_lt a b ≡ true → a < b
lt_true a b h = grind (arith, nat_tests)

true_le : (a b : ℕ) → a ≤ b → nat_le a b ≡ true
true_le a b h = grind (arith, nat_tests)

-- a beginning has room
beginning-le : (room : ℕ) (cs : List ℕ) → width (beginning room cs) ≤ room
beginning-le room [] = omega arith
beginning-le room (c ∷ cs) = by_test (nat_le (char_columns c) room) refl (beginning-le (room - char_columns c) cs)
  where
    by_test : (b : Bool) → nat_le (char_columns c) room ≡ b → width (beginning (room - char_columns c) cs) ≤ room - char_columns c → width (cond b (c ∷ beginning (room - char_columns c) cs) []) ≤ room
    by_test true e rest = omega (arith, le_true (char_columns c) room e, rest)
    by_test false e rest = omega arith

-- an end has room
ending-le : (room : ℕ) (cs : List ℕ) → width (ending room cs) ≤ room
ending-le room [] = omega arith
ending-le room (c ∷ cs) = by_test (is_end room c cs) refl (ending-le room cs)
  where
    by_test : (b : Bool) → is_end room c cs ≡ b → width (ending room cs) ≤ room → width (cond b (c ∷ cs) (ending room cs)) ≤ room
    by_test true e rest = le_true (char_columns c + width cs) room (and_parts (nat_le (char_columns c + width cs) room) (nat_lt 0 (char_columns c)) e).0
    by_test false e rest = rest

shortened-le : (room : ℕ) (cs : List ℕ) → width (shortened room cs) ≤ room
shortened-le zero cs = omega arith
shortened-le (suc room) cs =
    let split = width-append (beginning (room - room / 2) cs) (0x2026 ∷ ending (room / 2) cs) in
    omega (arith, split, dots_columns, beginning-le (room - room / 2) cs, ending-le (room / 2) cs)

pub cut-le : (room : ℕ) (cs : List ℕ) → width (cut room cs) ≤ room
unfolding cut
cut-le room cs = by_test (nat_le (width cs) room) refl
  where
    by_test : (b : Bool) → nat_le (width cs) room ≡ b → width (cond b cs (shortened room cs)) ≤ room
    by_test true e = le_true (width cs) room e
    by_test false e = shortened-le room cs

pub cut-whole : (room : ℕ) (cs : List ℕ) → width cs ≤ room → cut room cs ≡ cs
unfolding cut
cut-whole room cs h = ap (λ b. cond b cs (shortened room cs)) (true_le (width cs) room h)

pub width-padded : (room : ℕ) (cs : List ℕ) → width (padded room cs) ≡ room
unfolding padded
width-padded room cs = omega (arith, width-append (cut room cs) (filler room (cut room cs)), width-spaces (room - width (cut room cs)), cut-le room cs)

-- a line has room
abbrev pub HasRoom : ℕ → List ℕ → Type 0
HasRoom n line = width line ≤ n

filled-le : (n : ℕ) (line : List ℕ) (ws : List (List ℕ)) → width line ≤ n → All (HasRoom n) (filled n line ws)
filled-le n line [] h = All-cons (HasRoom n) line [] h (All-nil (HasRoom n))
filled-le n line (w ∷ ws) h =
    by_test (nat_lt (width (cut n w)) (n - width line)) refl (λ k. filled-le n (line ++ 32 ∷ cut n w) ws k) (filled-le n (cut n w) ws (cut-le n w))
  where
    by_test : (b : Bool) → nat_lt (width (cut n w)) (n - width line) ≡ b → (width (line ++ 32 ∷ cut n w) ≤ n → All (HasRoom n) (filled n (line ++ 32 ∷ cut n w) ws)) → All (HasRoom n) (filled n (cut n w) ws)
        → All (HasRoom n) (cond b (filled n (line ++ 32 ∷ cut n w) ws) (line ∷ filled n (cut n w) ws))
    by_test true e longer next = longer (omega (arith, width-append line (32 ∷ cut n w), space_columns, lt_true (width (cut n w)) (n - width line) e))
    by_test false e longer next = All-cons (HasRoom n) line (filled n (cut n w) ws) h next

pub paragraph-le : (n : ℕ) (ws : List (List ℕ)) → All (HasRoom n) (paragraph n ws)
paragraph-le n [] = All-nil (HasRoom n)
paragraph-le n (w ∷ ws) = filled-le n (cut n w) ws (cut-le n w)
