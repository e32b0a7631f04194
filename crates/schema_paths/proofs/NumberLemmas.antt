-- The texts of the numbers among values are numbers.
use Rattle.std.proofs.Common.{◌≡◌, ◌∷◌, ◌++◌, Bool, List, [], suc, map, sym, ap, subst, arith}
use Rattle.std.proofs.lemmas.List.Concat.{flat_map-cons}
use Rattle.std.proofs.lemmas.List.Elements.{All-append, All-filter, All-map, All-nil, All-push}
use Rattle.std.specs.List.{filter, flat_map}
use Rattle.std.specs.Prelude.{All}
use Rattle.diff_numbers.specs.Cells.{is_end}
use Rattle.json.specs.Json.{Json, null, boolean, number, string, array, object}
use Rattle.json.specs.Tree.{HasNumbers}
use Rattle.json_parts.specs.Parts.{Part}
use Rattle.schema_paths.specs.Kinds.{number_text, numbers_in}
use Rattle.schema_values.specs.Numbers.{IsNumber}

own_number : (j : Json) → HasNumbers j → All IsNumber (number_text j)
own_number null h = All-nil IsNumber
own_number (boolean b) h = All-nil IsNumber
own_number (number s) h = All-push IsNumber [] s (All-nil IsNumber) (ap is_end h)
own_number (string s) h = All-nil IsNumber
own_number (array js) h = All-nil IsNumber
own_number (object ms) h = All-nil IsNumber

-- what holds of all elements holds of the first, and of those after it
first_of : {A : Type 0} (P : A → Type 0) (x : A) (xs : List A) → All P (x ∷ xs) → P x
first_of P x xs h = h 0 x (omega arith)

rest_of : {A : Type 0} (P : A → Type 0) (x : A) (xs : List A) → All P (x ∷ xs) → All P xs
rest_of P x xs h = λ i d low. h (suc i) d (omega (arith, low))

pub numbers_numeric : (values : List Json) → All HasNumbers values → All IsNumber (numbers_in values)
numbers_numeric [] h = All-nil IsNumber
numbers_numeric (v ∷ vs) h =
    subst (All IsNumber) (sym (flat_map-cons number_text v vs))
    (All-append IsNumber (number_text v) (numbers_in vs) (own_number v (first_of HasNumbers v vs h)) (numbers_numeric vs (rest_of HasNumbers v vs h)))

-- the elements of all lists that are made from some values
pub all_of_lists : {A X : Type 0} (P : A → Type 0) (Q : X → Type 0) (f : X → List A) → ((x : X) → Q x → All P (f x)) → (xs : List X) → All Q xs → All P (flat_map (λ ys. ys) (map f xs))
all_of_lists P Q f each [] h = All-nil P
all_of_lists P Q f each (x ∷ xs) h =
    subst (All P) (sym (flat_map-cons (λ ys. ys) (f x) (map f xs)))
    (All-append P (f x) (flat_map (λ ys. ys) (map f xs)) (each x (first_of Q x xs h)) (all_of_lists P Q f each xs (rest_of Q x xs h)))

-- the values of some parts
pub values_numeric : (p : Part → Bool) (parts : List Part) → All (λ x. HasNumbers x.value) parts → All HasNumbers (map (λ x. x.value) (filter p parts))
values_numeric p parts h = All-map HasNumbers (λ (x : Part). x.value) (filter p parts) (All-filter p (λ x. HasNumbers x.value) parts h)
