-- The text of a decimal is a number of JSON, and so a normal text reads back.
use Rattle.std.proofs.Common.{◌≡◌, ℕ, zero, suc, ◌+◌, ◌<◌, Bool, true, false, cond, ◌||◌, ◌==◌, List, [], ◌∷◌, ◌++◌, length, drop, get_or, Some, None, option_and_then, IsAscii, IsUtf8, refl, sym, ap, ap₂, ◌∙◌, arith, append-nil, append_assoc, inl, inr, subst}
use Rattle.std.proofs.lemmas.Bool.{ne_eqb, le-leb, and_from}
use Rattle.std.proofs.lemmas.List.{drop_at}
use Rattle.std.proofs.lemmas.Str.{IsUtf8-from_ascii}
use Rattle.std.proofs.lemmas.Str.Ascii.{IsAscii-nil, IsAscii-cons}
use Rattle.std.proofs.lemmas.Str.Parse.{digit_from_value}
use Rattle.std.specs.Char.{is_ascii_digit}
use Rattle.std.specs.Fmt.{sign_text}
use Rattle.std.specs.List.{prefix_len}
use Rattle.std.specs.Str.Parse.{AllDigits}
use Rattle.json.proofs.Printed.Tokens.{tokens-print}
use Rattle.json.proofs.Printed.Trees.{ArePrintable-json_tokens}
use Rattle.json.specs.Json.{Json, null, boolean, number, string, array, object, Items, no_items, item, Members, no_members, member}
use Rattle.json.specs.Lex.{tokens}
use Rattle.json.specs.Print.{IsNumber}
use Rattle.json.specs.Tree.{json_tokens, HasNumbers, ItemsHaveNumbers, MembersHaveNumbers}
use Rattle.json.specs.Word.{head, after_digits, after_whole, after_fraction, after_exponent, after_number}
use Rattle.json_decimals.proofs.SpelledLemmas.{digits_text-IsSpelled}
use Rattle.json_decimals.specs.Decimals.{Decimal, normal_of, decimal_of}
use Rattle.json_decimals.specs.Texts.{digits_text, tens_text, number_text, normal_number}
use Rattle.json_normal.specs.Normal.{Entry, in_order, members_from, normal, normal_items, normal_entries, normal_text}
use Rattle.json_normal.proofs.OrderLemmas.{Has, order_has}

-- ---- the grammar of numbers

run : (ds rest : List ℕ) → AllDigits 10 ds → prefix_len is_ascii_digit rest ≡ 0 → prefix_len is_ascii_digit (ds ++ rest) ≡ length ds
run [] rest h none = none
run (d ∷ ds) rest h none =
    let range = digit_from_value d h.0 in
    ap (λ b. cond b (1 + prefix_len is_ascii_digit (ds ++ rest)) 0) (and_from _ _ (le-leb 48 d range.0) (le-leb d 57 range.1)) ∙ omega (arith, run ds rest h.1 none)

digits_then : (ds rest : List ℕ) → AllDigits 10 ds → 0 < length ds → prefix_len is_ascii_digit rest ≡ 0 → after_digits (ds ++ rest) ≡ Some rest
digits_then ds rest h some none =
    ap (λ n. cond (n == 0) None (Some (drop n (ds ++ rest)))) (run ds rest h none)
    ∙ ap (λ b. cond b None (Some (drop (length ds) (ds ++ rest)))) (ne_eqb (length ds) 0 (λ e. omega arith)) ∙ ap Some (drop_at ds rest _ refl)

-- a whole part that does not begin with 0
whole_then : (ds rest : List ℕ) → AllDigits 10 ds → 48 < get_or ds 0 0 → prefix_len is_ascii_digit rest ≡ 0 → (after_whole (ds ++ rest) ≡ Some rest) × ((head (ds ++ rest) == 45) ≡ false)
whole_then [] rest h first none = absurd (omega arith)
whole_then (d ∷ ds) rest h first none = (
  ap (λ b. cond b (Some (ds ++ rest)) (after_digits (d ∷ ds ++ rest))) (ne_eqb d 48 (λ e. omega arith)) ∙ digits_then (d ∷ ds) rest h (omega arith) none,
  ne_eqb d 45 (λ e. omega arith),
)

coefficient_then : (c : ℕ) (rest : List ℕ) → prefix_len is_ascii_digit rest ≡ 0 → (after_whole (digits_text c ++ rest) ≡ Some rest) × ((head (digits_text c ++ rest) == 45) ≡ false)
coefficient_then zero rest none = let e = (digits_text-IsSpelled 0).zero_is refl in (ap (λ ds. after_whole (ds ++ rest)) e, ap (λ ds. head (ds ++ rest) == 45) e)
coefficient_then (suc c) rest none = let s = digits_text-IsSpelled (suc c) in whole_then (digits_text (suc c)) rest s.digits (s.first (omega arith)) none

-- an exponent ends the number
record Ends (e : List ℕ) : Type 0 where
  last : after_exponent e ≡ Some []
  no_digit : prefix_len is_ascii_digit e ≡ 0
  no_fraction : after_fraction e ≡ Some e

all_of : (ds : List ℕ) → AllDigits 10 ds → 0 < length ds → after_digits ds ≡ Some []
all_of ds h some = ap after_digits (sym (append-nil ds)) ∙ digits_then ds [] h some refl

unsigned : (ds : List ℕ) → AllDigits 10 ds → 0 < length ds → after_exponent (101 ∷ ds) ≡ Some []
unsigned [] h some = absurd (omega arith)
unsigned (d ∷ ds) h some =
    let range = digit_from_value d h.0 in
    let none : ((d == 45) || (d == 43)) ≡ false = ap₂ (λ a b. a || b) (ne_eqb d 45 (λ e. omega arith)) (ne_eqb d 43 (λ e. omega arith)) in
    ap (λ b. after_digits (cond b ds (d ∷ ds))) none ∙ all_of (d ∷ ds) h some

tens_end : (up down : ℕ) → Ends (tens_text up down)
unfolding tens_text
tens_end zero zero = record { last = refl; no_digit = refl; no_fraction = refl }
tens_end zero (suc down) = let s = digits_text-IsSpelled (suc down) in record { last = all_of (digits_text (suc down)) s.digits s.some; no_digit = refl; no_fraction = refl }
tens_end (suc up) down = let s = digits_text-IsSpelled (suc up) in record { last = unsigned (digits_text (suc up)) s.digits s.some; no_digit = refl; no_fraction = refl }

unsigned_part : (c up down : ℕ) → let t = digits_text c ++ tens_text up down in
    (option_and_then after_exponent (option_and_then after_fraction (after_whole t)) ≡ Some []) × ((head t == 45) ≡ false)
unsigned_part c up down =
    let e = tens_end up down in
    let w = coefficient_then c (tens_text up down) e.no_digit in
    (ap (λ o. option_and_then after_exponent (option_and_then after_fraction o)) w.0 ∙ ap (option_and_then after_exponent) e.no_fraction ∙ e.last, w.1)

signed : (negative : Bool) (c up down : ℕ) → IsNumber (sign_text negative ++ (digits_text c ++ tens_text up down))
unfolding after_number
signed true c up down = (unsigned_part c up down).0
signed false c up down =
    let u = unsigned_part c up down in
    let t : List ℕ = digits_text c ++ tens_text up down in
    ap (λ b. option_and_then after_exponent (option_and_then after_fraction (after_whole (cond b (drop 1 t) t)))) u.1 ∙ u.0

IsNumber-number_text : (n : Decimal) → IsNumber (number_text n)
unfolding number_text
IsNumber-number_text n =
    ap after_number (append_assoc (sign_text n.negative) (digits_text n.coefficient) (tens_text n.up n.down)) ∙ signed n.negative n.coefficient n.up n.down

pub IsNumber-normal_number : (s : List ℕ) → IsNumber (normal_number s)
unfolding normal_number
IsNumber-normal_number s = IsNumber-number_text (normal_of (decimal_of s))

-- ---- its bytes

digits_ascii : (ds rest : List ℕ) → AllDigits 10 ds → IsAscii rest → IsAscii (ds ++ rest)
digits_ascii [] rest h a = a
digits_ascii (d ∷ ds) rest h a = let range = digit_from_value d h.0 in IsAscii-cons d _ (omega arith) (digits_ascii ds rest h.1 a)

spelled_ascii : (n : ℕ) → IsAscii (digits_text n)
spelled_ascii n = subst IsAscii (append-nil (digits_text n)) (digits_ascii (digits_text n) [] (digits_text-IsSpelled n).digits IsAscii-nil)

tens_ascii : (up down : ℕ) → IsAscii (tens_text up down)
unfolding tens_text
tens_ascii zero zero = IsAscii-nil
tens_ascii zero (suc down) = IsAscii-cons 101 (45 ∷ digits_text (suc down)) (omega arith) (IsAscii-cons 45 (digits_text (suc down)) (omega arith) (spelled_ascii (suc down)))
tens_ascii (suc up) down = IsAscii-cons 101 (digits_text (suc up)) (omega arith) (spelled_ascii (suc up))

signed_ascii : (negative : Bool) (rest : List ℕ) → IsAscii rest → IsAscii (sign_text negative ++ rest)
signed_ascii true rest a = IsAscii-cons 45 rest (omega arith) a
signed_ascii false rest a = a

IsAscii-number_text : (n : Decimal) → IsAscii (number_text n)
unfolding number_text
IsAscii-number_text n =
    subst IsAscii (sym (append_assoc (sign_text n.negative) (digits_text n.coefficient) (tens_text n.up n.down)))
    (signed_ascii n.negative _ (digits_ascii (digits_text n.coefficient) _ (digits_text-IsSpelled n.coefficient).digits (tens_ascii n.up n.down)))

pub IsUtf8-normal_number : (s : List ℕ) → IsUtf8 (normal_number s)
unfolding normal_number
IsUtf8-normal_number s = IsUtf8-from_ascii (number_text (normal_of (decimal_of s))) (IsAscii-number_text (normal_of (decimal_of s)))

-- ---- a normal form has numbers

from_entries : (ms : List Entry) → ((z : Entry) → Has ms z → HasNumbers z.1) → MembersHaveNumbers (members_from ms)
from_entries [] f = tt
from_entries (m ∷ ms) f = (f m (inl refl), from_entries ms (λ z h. f z (inr h)))

mutual
  pub HasNumbers-normal : (j : Json) → HasNumbers (normal j)
  HasNumbers-normal null = tt
  HasNumbers-normal (boolean b) = tt
  HasNumbers-normal (number s) = IsNumber-normal_number s
  HasNumbers-normal (string s) = tt
  HasNumbers-normal (array js) = items_have js
  HasNumbers-normal (object ms) = from_entries (in_order (normal_entries ms)) (λ z h. entries_have ms z (order_has (normal_entries ms) z h))

  items_have : (js : Items) → ItemsHaveNumbers (normal_items js)
  items_have no_items = tt
  items_have (item j js) = (HasNumbers-normal j, items_have js)

  entries_have : (ms : Members) (z : Entry) → Has (normal_entries ms) z → HasNumbers z.1
  entries_have no_members z h = absurd h
  entries_have (member k j ms) z (inl e) = subst (λ (m : Entry). HasNumbers m.1) (sym e) (HasNumbers-normal j)
  entries_have (member k j ms) z (inr h) = entries_have ms z h

pub text_reads_back : (j : Json) → tokens (normal_text j) ≡ json_tokens (normal j)
text_reads_back j = tokens-print (json_tokens (normal j)) (ArePrintable-json_tokens (normal j) (HasNumbers-normal j))
