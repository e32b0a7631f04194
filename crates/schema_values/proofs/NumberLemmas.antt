-- Which texts write one number, and how many numbers differ.
use Rattle.std.proofs.Common.{◌≡◌, ◌<◌, ◌+◌, ◌||◌, ◌&&◌, ◌∙◌, ℕ, Bool, true, false, not, if◌then◌else◌, List, [], ◌∷◌, length, get_or, map, refl, ap}
use Rattle.std.proofs.lemmas.Bool.Decides.{same_from_decides}
use Rattle.std.proofs.lemmas.Slice.Eq.{bytes_eq-Decides}
use Rattle.std.specs.List.{list_any}
use Rattle.std.specs.Prelude.{Result, Ok, Err, MatchResult}
use Rattle.std.specs.Str.{bytes_eq}
use Rattle.json_decimals.proofs.TextLemmas.{texts_tell}
use Rattle.json_decimals.specs.Decimals.{decimal_of}
use Rattle.json_decimals.specs.Texts.{HasWideExponent, normal_number}
use Rattle.json_decimals.specs.declared.error.NumberError.{NumberError}
use Rattle.json_decimals.specs.declared.error.NumberError.TheVariants.{Memory, WideExponent}
use Rattle.json_tolerances.specs.OrderLaws.{equal_are_not_less}
use Rattle.schema_values.specs.Distinct.{distinct_total}
use Rattle.schema_values.specs.Laws.{OneNumberWhereEqual}
use Rattle.schema_values.specs.Numbers.{IsNumberFault, number_less, same_number}

both_false : (a b : Bool) → (not a && not b) ≡ true → (a ≡ false) × (b ≡ false)
both_false false false e = (refl, refl)
both_false false true e = absurd (cc)
both_false true b e = absurd (cc)

neither : (a b : Bool) → a ≡ false → b ≡ false → (not a && not b) ≡ true
neither false false e f = refl
neither false true e f = absurd (cc)
neither true b e f = absurd (cc)

pub one_number : OneNumberWhereEqual
one_number s t = (
  λ e. (equal_are_not_less (decimal_of s) (decimal_of t)).1 (both_false (number_less s t) (number_less t s) e),
  λ h. let less = (equal_are_not_less (decimal_of s) (decimal_of t)).0 h in neither (number_less s t) (number_less t s) less.0 less.1,
)

-- two texts write one number where their normal texts are one
same_text : (s t : List ℕ) → bytes_eq (normal_number s) (normal_number t) ≡ same_number s t
same_text s t =
    same_from_decides {P = normal_number s ≡ normal_number t} (bytes_eq (normal_number s) (normal_number t)) (same_number s t) (bytes_eq-Decides (normal_number s) (normal_number t))
    ((λ e. (texts_tell s t).0 ((one_number s t).0 e)), (λ h. (one_number s t).1 ((texts_tell s t).1 h)))

any_same : (s : List ℕ) (texts : List (List ℕ)) → list_any (bytes_eq (normal_number s)) (map normal_number texts) ≡ list_any (same_number s) texts
any_same s [] = refl
any_same s (t ∷ texts) = ap (λ b. b || list_any (bytes_eq (normal_number s)) (map normal_number texts)) (same_text s t) ∙ ap (λ b. same_number s t || b) (any_same s texts)

-- as many numbers differ as normal texts
pub numbers_counted : (texts : List (List ℕ)) → distinct_total bytes_eq (map normal_number texts) ≡ distinct_total same_number texts
numbers_counted [] = refl
numbers_counted (s ∷ texts) =
    ap (λ n. n + (if list_any (bytes_eq (normal_number s)) (map normal_number texts) then 0 else 1)) (numbers_counted texts)
    ∙ ap (λ b. distinct_total same_number texts + (if b then 0 else 1)) (any_same s texts)

-- what a fault at a number says
pub fault_told : (texts : List (List ℕ)) (e : NumberError) (i : ℕ) → i < length texts → (e ≡ WideExponent → HasWideExponent (get_or texts i [])) → IsNumberFault texts e
fault_told texts Memory i low wide = record {}
fault_told texts WideExponent i low wide = record { place = i; within = low; wide = wide refl }

-- what holds of an Ok implies something else
pub match_weaker : {T E : Type 0} (P Q : T → Type 0) (F : E → Type 0) (r : Result T E) → ((x : T) → P x → Q x) → MatchResult r P F → MatchResult r Q F
match_weaker P Q F (Ok x) more told = more x told
match_weaker P Q F (Err e) more told = told
