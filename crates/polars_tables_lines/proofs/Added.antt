-- The output after one more line: the text, the lines and the refusals of an input.
use Rattle.std.proofs.Common.{◌≡◌, ◌≤◌, ◌<◌, ◌+◌, ◌++◌, ◌∙◌, ℕ, suc, Bool, true, false, List, [], ◌∷◌, length, append_assoc, sym, ap, arith}
use Rattle.std.specs.Prelude.{if◌then◌else◌}
use Rattle.std.specs.Result.{is_err}
use Rattle.polars_tables_lines.specs.Output.{meaning_of, output_from, printed, refusals}

joined : (old p rest : List ℕ) → (old ++ (p ++ 10 ∷ [])) ++ rest ≡ old ++ (p ++ 10 ∷ rest)
joined old p rest = append_assoc old (p ++ 10 ∷ []) rest ∙ ap (λ (t : List ℕ). old ++ t) (append_assoc p (10 ∷ []) rest)

pub text_left : (old new out line : List ℕ) (lines more : List (List ℕ)) (n m : ℕ)
    → lines ≡ line ∷ more → m ≡ n + 1 → new ≡ old ++ (printed (n + 1) (meaning_of line) ++ 10 ∷ [])
    → old ++ output_from (n + 1) lines ≡ out → new ++ output_from (m + 1) more ≡ out
text_left old new out line lines more n m e g t f =
    ap (λ (x : List ℕ). x ++ output_from (m + 1) more) t
    ∙ ap (λ (k : ℕ). (old ++ (printed (n + 1) (meaning_of line) ++ 10 ∷ [])) ++ output_from (k + 1) more) g
    ∙ joined old (printed (n + 1) (meaning_of line)) (output_from (n + 1 + 1) more)
    ∙ ap (λ (ls : List (List ℕ)). old ++ output_from (n + 1) ls) (sym e)
    ∙ f

pub lines_left : (lines more : List (List ℕ)) (line : List ℕ) (n m all : ℕ)
    → lines ≡ line ∷ more → m ≡ n + 1 → n + length lines ≡ all → m + length more ≡ all
lines_left lines more line n m all e g f =
    let h : length lines ≡ suc (length more) = ap length e in
    omega (arith, g, f, h)

sum_left : (a b x r all : ℕ) → b ≡ a + x → a + (x + r) ≡ all → b + r ≡ all
sum_left a b x r all g f = omega (arith, g, f)

pub refusals_left : (lines more : List (List ℕ)) (line : List ℕ) (a b all : ℕ)
    → lines ≡ line ∷ more → b ≡ a + (if is_err (meaning_of line) then 1 else 0) → a + refusals lines ≡ all → b + refusals more ≡ all
refusals_left lines more line a b all e g f =
    sum_left a b (if is_err (meaning_of line) then 1 else 0) (refusals more) all g (ap (λ (ls : List (List ℕ)). a + refusals ls) (sym e) ∙ f)

one_at_most : (t : Bool) → (if t then 1 else 0) ≤ 1
one_at_most true = omega arith
one_at_most false = omega arith

pub few_refusals : (t : Bool) (a b n m : ℕ) → b ≡ a + (if t then 1 else 0) → m ≡ n + 1 → a ≤ n → b ≤ m
few_refusals t a b n m g h f = omega (arith, g, h, f, one_at_most t)

pub few_lines : (n m short long all : ℕ) → m ≡ n + 1 → short < long → n + long ≤ all → m + short ≤ all
few_lines n m short long all g h f = omega (arith, g, h, f)
