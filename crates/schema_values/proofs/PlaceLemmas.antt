-- The places of the least and of the greatest number.
use Rattle.std.proofs.Common.{◌≡◌, ◌<◌, ◌+◌, ◌∙◌, ◌⊎◌, inl, inr, ℕ, Bool, true, false, if◌then◌else◌, List, [], get_or, refl, sym, subst, arith}
use Rattle.std.proofs.lemmas.Bool.{cases_eq}
use Rattle.json_decimals.specs.Decimals.{decimal_of}
use Rattle.json_tolerances.specs.OrderLaws.{less_one_way, less_passes_on}
use Rattle.schema_values.specs.Numbers.{IsBestPlace, better, number_less}

-- what the order of numbers has, in both directions
pub record IsOrder (beats : List ℕ → List ℕ → Bool) : Type 0 where
  pub passes : (a b c : List ℕ) → beats a c ≡ true → beats b c ≡ false → beats a b ≡ true
  pub one_way : (a b : List ℕ) → beats a b ≡ true → beats b a ≡ false

turned : (a b c : List ℕ) (answer : Bool) → number_less b a ≡ answer → number_less c a ≡ true → number_less c b ≡ false → answer ≡ true
turned a b c true is h g = refl
turned a b c false is h g =
    let other : number_less c b ≡ true = less_passes_on (decimal_of c) (decimal_of b) (decimal_of a) h is in
    sym g ∙ other

pub order_of : (greatest : Bool) → IsOrder (better greatest)
order_of true = record {
  passes = λ a b c h g. turned a b c (number_less b a) refl h g;
  one_way = λ a b h. less_one_way (decimal_of b) (decimal_of a) h;
}
order_of false = record {
  passes = λ a b c h g. less_passes_on (decimal_of a) (decimal_of b) (decimal_of c) h g;
  one_way = λ a b h. less_one_way (decimal_of a) (decimal_of b) h;
}

not_itself : (beats : List ℕ → List ℕ → Bool) → IsOrder beats → (a : List ℕ) (answer : Bool) → beats a a ≡ answer → beats a a ≡ false
not_itself beats order a true is = order.one_way a a is
not_itself beats order a false is = is

pub first_place : (beats : List ℕ → List ℕ → Bool) → IsOrder beats → (texts : List (List ℕ)) → IsBestPlace beats texts 1 0
first_place beats order texts = record {
  within = omega arith;
  none_better = λ k low. let here : 0 ≡ k = omega (arith, low) in
      subst (λ j. beats (get_or texts j []) (get_or texts 0 []) ≡ false) here (not_itself beats order (get_or texts 0 []) (beats (get_or texts 0 []) (get_or texts 0 [])) refl);
  first = λ k low. absurd (omega (arith, low));
}

stays : (beats : List ℕ → List ℕ → Bool) (texts : List (List ℕ)) (n best : ℕ) → IsBestPlace beats texts n best → beats (get_or texts n []) (get_or texts best []) ≡ false → IsBestPlace beats texts (n + 1) best
stays beats texts n best old e = record {
  within = let low = old.within in omega (arith, low);
  none_better = λ k low. told k low (cases_eq k n);
  first = old.first;
}
  where
    told : (k : ℕ) → k < n + 1 → (k ≡ n) ⊎ (¬ (k ≡ n)) → beats (get_or texts k []) (get_or texts best []) ≡ false
    told k low (inl here) = subst (λ j. beats (get_or texts j []) (get_or texts best []) ≡ false) (sym here) e
    told k low (inr apart) = old.none_better k (omega (arith, low, apart))

moves : (beats : List ℕ → List ℕ → Bool) → IsOrder beats → (texts : List (List ℕ)) (n best : ℕ) → IsBestPlace beats texts n best → beats (get_or texts n []) (get_or texts best []) ≡ true
    → IsBestPlace beats texts (n + 1) n
moves beats order texts n best old e = record {
  within = omega arith;
  none_better = λ k low. told k low (cases_eq k n);
  first = ahead;
}
  where
    ahead : (k : ℕ) → k < n → beats (get_or texts n []) (get_or texts k []) ≡ true
    ahead k low = order.passes (get_or texts n []) (get_or texts k []) (get_or texts best []) e (old.none_better k low)

    told : (k : ℕ) → k < n + 1 → (k ≡ n) ⊎ (¬ (k ≡ n)) → beats (get_or texts k []) (get_or texts n []) ≡ false
    told k low (inl here) =
        subst (λ j. beats (get_or texts j []) (get_or texts n []) ≡ false) (sym here) (not_itself beats order (get_or texts n []) (beats (get_or texts n []) (get_or texts n [])) refl)
    told k low (inr apart) = order.one_way (get_or texts n []) (get_or texts k []) (ahead k (omega (arith, low, apart)))

-- the better of the best place so far and the next one
pub next_place : (beats : List ℕ → List ℕ → Bool) → IsOrder beats → (texts : List (List ℕ)) (n best place : ℕ) → IsBestPlace beats texts n best
    → place ≡ (if beats (get_or texts n []) (get_or texts best []) then n else best) → IsBestPlace beats texts (n + 1) place
next_place beats order texts n best place old is = by (beats (get_or texts n []) (get_or texts best [])) refl is
  where
    by : (b : Bool) → beats (get_or texts n []) (get_or texts best []) ≡ b → place ≡ (if b then n else best) → IsBestPlace beats texts (n + 1) place
    by true e here = subst (λ p. IsBestPlace beats texts (n + 1) p) (sym here) (moves beats order texts n best old e)
    by false e here = subst (λ p. IsBestPlace beats texts (n + 1) p) (sym here) (stays beats texts n best old e)
