-- `parse` returns the value that a word denotes.
use Rattle.std.proofs.Common.{◌≡◌, ◌<◌, ◌&&◌, ◌==◌, ◌-◌, ◌^◌, ℕ, Bool, true, false, not, List, []}
use Rattle.std.proofs.Common.{◌∷◌, length, Option, Some, None, Result, Ok, Err, refl, sym, ap, ◌∙◌}
use Rattle.std.proofs.Common.{arith}
use Rattle.std.specs.Prelude.{ℤ, pos, negsuc, FitsSigned, if◌then◌else◌, option_map, codes}
use Rattle.std.specs.Int.{Width}
use Rattle.std.specs.Result.{result_ok}
use Rattle.std.specs.Str.{all_ascii_digits, bytes_eq}
use Rattle.std.specs.Str.Parse.{IsNumeral, ParsesSigned, ParsesUnsigned, ParsesBool, true_text}
use Rattle.std.specs.Str.Parse.{false_text, digits_value, without_leading_plus}
use Rattle.std.specs.Str.Parse.{without_leading_sign, signed_digits_value}
use Rattle.std.proofs.lemmas.Bool.{ltb-true, lt-ltb}
use Rattle.std.proofs.Common.{ltb}
use Rattle.std.proofs.lemmas.Bool.Decides.{nat_tests}
use Rattle.std.proofs.lemmas.Slice.Eq.{bytes_eq-Decides}
use Rattle.std.proofs.lemmas.Str.Parse.{IsNumeralModel, numerals_by_value, tells_all_ascii_digits}
use Rattle.polars_arrays_flat.specs.Row.{Int, Truth}
use Rattle.polars_tables_rows.specs.Word.{are_digits, is_signed, signed_number, unsigned_number}
use Rattle.polars_tables_rows.specs.Word.{truth_of}
use mir.Val.{hbits}

own : IsNumeralModel (λ ds. all_ascii_digits ds ≡ true) (digits_value 10)
own = numerals_by_value _ tells_all_ascii_digits

both : (a b : Bool) → (a && b) ≡ true → (a ≡ true) × (b ≡ true)
both true b e = (refl, e)
both false b e = absurd (cc)

joined : (a b : Bool) → a ≡ true → b ≡ true → (a && b) ≡ true
joined true b e f = f
joined false b e f = absurd (cc)

not_zero : (n : ℕ) → 0 < n → not (n == 0) ≡ true
not_zero n h = grind (arith, nat_tests)

digit_there : (ds : List ℕ) → not (length ds == 0) ≡ true → 0 < length ds
digit_there [] e = absurd (cc)
digit_there (d ∷ ds) e = omega arith

numeral_from : (ds : List ℕ) → IsNumeral 10 ds → are_digits ds ≡ true
numeral_from ds n =
    joined (not (length ds == 0)) (all_ascii_digits ds) (not_zero (length ds) n.0) (own.from ds n.1)

numeral_is : (ds : List ℕ) → are_digits ds ≡ true → IsNumeral 10 ds
numeral_is ds e =
    let parts = both (not (length ds == 0)) (all_ascii_digits ds) e in
    (digit_there ds parts.0, own.to ds parts.1)

if_true : {A : Type 0} (b : Bool) (x : A) → b ≡ true → (if b then Some x else None) ≡ Some x
if_true true x e = refl
if_true false x e = absurd (cc)

if_not : {A : Type 0} (b : Bool) (x : A) → (b ≡ true → ⊥) → (if b then Some x else None) ≡ None
if_not true x e = absurd (e refl)
if_not false x e = refl

module _ (w : Width) (bits : ℕ) (wide : hbits w ≡ bits - 1) where
  in_range : (z : ℤ) → FitsSigned w z → is_signed bits z ≡ true
  in_range (pos n) f = let h = rw wide at f.sfits in lt-ltb n (2 ^ (bits - 1)) h
  in_range (negsuc n) f = let h = rw wide at f.sfits in lt-ltb n (2 ^ (bits - 1)) h

  fits : (z : ℤ) → is_signed bits z ≡ true → FitsSigned w z
  fits (pos n) e = record { sfits = rw wide (ltb-true n (2 ^ (bits - 1)) e) }
  fits (negsuc n) e = record { sfits = rw wide (ltb-true n (2 ^ (bits - 1)) e) }

  parsed_signed : {E : Type 0} (word : List ℕ) (r : Result ℤ E) → ParsesSigned w 10 word r
      → result_ok r ≡ signed_number bits word
  parsed_signed word (Ok x) h =
      let ds = without_leading_sign word in
      let value = signed_digits_value 10 word in
      ap (λ (z : ℤ). Some z) h.1 ∙ sym
      (if_true (are_digits ds && is_signed bits value) value
      (joined (are_digits ds) (is_signed bits value) (numeral_from ds h.0.0)
      (in_range value h.0.1)))
  parsed_signed word (Err e) h =
      let ds = without_leading_sign word in
      let value = signed_digits_value 10 word in
      sym (if_not (are_digits ds && is_signed bits value) value
      (λ t. let parts =
      both (are_digits ds) (is_signed bits value) t in h
      (numeral_is ds parts.0, fits value parts.1)))

  -- a parsed signed number, as a row
  pub signed_row : {E : Type 0} (word : List ℕ) (r : Result ℤ E) → ParsesSigned w 10 word r
      → option_map Int (result_ok r) ≡ option_map Int (signed_number bits word)
  signed_row word r h = ap (λ (o : Option ℤ). option_map Int o) (parsed_signed word r h)

parsed_unsigned : {E : Type 0} (bits : ℕ) (word : List ℕ) (r : Result ℕ E)
    → ParsesUnsigned bits 10 word r → option_map (λ n. pos n) (result_ok r)
    ≡ unsigned_number bits word
parsed_unsigned bits word (Ok x) h =
    let ds = without_leading_plus word in
    let value = digits_value 10 ds in
    ap (λ (n : ℕ). Some (pos n)) h.1 ∙ sym
    (if_true (are_digits ds && ltb value (2 ^ bits)) (pos value)
    (joined (are_digits ds) _ (numeral_from ds h.0.0) (lt-ltb value (2 ^ bits) h.0.1)))
parsed_unsigned bits word (Err e) h =
    let ds = without_leading_plus word in
    let value = digits_value 10 ds in
    sym (if_not (are_digits ds && ltb value (2 ^ bits)) (pos value)
    (λ t. let parts =
    both (are_digits ds) (ltb value (2 ^ bits)) t in h
    (numeral_is ds parts.0, ltb-true value (2 ^ bits) parts.1)))

map_twice : (o : Option ℕ) → option_map (λ n. Int (pos n)) o
    ≡ option_map Int (option_map (λ n. pos n) o)
map_twice None = refl
map_twice (Some n) = refl

-- a parsed unsigned number, as a row
pub unsigned_row : {E : Type 0} (bits : ℕ) (word : List ℕ) (r : Result ℕ E)
    → ParsesUnsigned bits 10 word r → option_map (λ n. Int (pos n)) (result_ok r)
    ≡ option_map Int (unsigned_number bits word)
unsigned_row bits word r h = map_twice (result_ok r) ∙ ap
    (λ (o : Option ℤ). option_map Int o) (parsed_unsigned bits word r h)

test_true : (xs ys : List ℕ) → xs ≡ ys → bytes_eq xs ys ≡ true
test_true xs ys e = (bytes_eq-Decides xs ys).1 e

test_not : (xs ys : List ℕ) → (xs ≡ ys → ⊥) → bytes_eq xs ys ≡ false
test_not xs ys n = off (bytes_eq xs ys) (λ t. n ((bytes_eq-Decides xs ys).0 t)) where
  off : (b : Bool) → (b ≡ true → ⊥) → b ≡ false
  off true f = absurd (f refl)
  off false f = refl

named : (word : List ℕ) (a b : Bool) → bytes_eq word (codes "true") ≡ a
    → bytes_eq word (codes "false") ≡ b → truth_of word
    ≡ (if a then Some true else (if b then Some false else None))
named word a b e f = rw (e, f) refl

parsed_truth : {E : Type 0} (word : List ℕ) (r : Result Bool E) → ParsesBool word r → result_ok r
    ≡ truth_of word
parsed_truth word (Ok true) h = sym (named word true _ (test_true word true_text h) refl)
parsed_truth word (Ok false) h = sym (rw h refl)
parsed_truth word (Err e) h =
    sym (named word false false (test_not word true_text h.0) (test_not word false_text h.1))

-- a parsed truth value, as a row
pub truth_row : {E : Type 0} (word : List ℕ) (r : Result Bool E) → ParsesBool word r
    → option_map Truth (result_ok r) ≡ option_map Truth (truth_of word)
truth_row word r h = ap (λ (o : Option Bool). option_map Truth o) (parsed_truth word r h)
