-- How many elements differ, counted by look-ups.
use Rattle.std.proofs.Common.{◌≡◌, ◌<◌, ◌≤◌, ◌+◌, ◌-◌, ◌||◌, ◌∙◌, ℕ, Bool, true, false, not, cond, if◌then◌else◌, List, [], ◌∷◌, length, drop, get_or, refl, sym, ap, arith, Option, Some, None}
use mir.Val.{bool_byte}
use Rattle.std.proofs.lemmas.List.{drop_more}
use Rattle.std.proofs.lemmas.Slice.Eq.{bytes_eq-Decides}
use Rattle.std.specs.List.{list_any}
use Rattle.std.specs.Prelude.{is_some, is_none}
use Rattle.std.specs.Str.{bytes_eq}
use Rattle.schema_values.specs.Distinct.{distinct_total}

-- ---- look-ups

-- what is looked up are these elements, and so many of them differ
pub record AreCounted {A : Type 0} (same : A → A → Bool) (xs : List A) (look : A → Option ℕ) (n : ℕ) : Type 0 where
  pub told : (q : A) → is_some (look q) ≡ list_any (same q) xs
  pub is : n ≡ distinct_total same xs

pub none_counted : {A : Type 0} (same : A → A → Bool) (look : A → Option ℕ) → ((q : A) → look q ≡ None) → AreCounted same [] look 0
none_counted same look none = record { told = λ q. ap is_some (none q); is = refl }

-- the number that is added for an element
abbrev pub added : Option ℕ → ℕ
added old = cond (is_none old) 1 0

added_is : (o : Option ℕ) (b : Bool) → is_some o ≡ b → added o ≡ (if b then 0 else 1)
added_is None true e = absurd (cc)
added_is None false e = refl
added_is (Some i) true e = refl
added_is (Some i) false e = absurd (cc)

pub byte_added : (o : Option ℕ) (b : Bool) (n : ℕ) → is_some o ≡ not b → n ≡ bool_byte b → n ≡ added o
byte_added None true n e is = is
byte_added None false n e is = absurd (cc)
byte_added (Some i) true n e is = absurd (cc)
byte_added (Some i) false n e is = is

pub one_at_most : (k count n : ℕ) (b : Bool) → n ≡ bool_byte b → count ≤ k → count + n ≤ k + 1
one_at_most k count n true is low = omega (arith, is)
one_at_most k count n false is low = omega (arith, is)

-- the elements from the k-th last on
pub last_more : {A : Type 0} (xs : List A) (k : ℕ) (d : A) → k < length xs → drop (length xs - (k + 1)) xs ≡ get_or xs (length xs - 1 - k) d ∷ drop (length xs - k) xs
last_more xs k d low =
    let first : length xs - (k + 1) ≡ length xs - 1 - k = omega arith in
    let rest : length xs - 1 - k + 1 ≡ length xs - k = omega arith in
    ap (λ j. drop j xs) first ∙ (drop_more xs (length xs - 1 - k) d (omega arith) ∙ ap (λ j. get_or xs (length xs - 1 - k) d ∷ drop j xs) rest)

-- one element more
pub one_counted : {A : Type 0} (same : A → A → Bool) → ((x q : A) → same x q ≡ same q x) → (x : A) (xs : List A) (look look' : A → Option ℕ) (v n m : ℕ) → AreCounted same xs look n
    → ((q : A) → look' q ≡ (if same x q then Some v else look q)) → m ≡ n + added (look x) → AreCounted same (x ∷ xs) look' m
one_counted {A} same turned x xs look look' v n m old updated more = record {
  told = λ q. ap is_some (updated q) ∙ by (same x q) (same q x) (turned x q) (look q) (list_any (same q) xs) (old.told q);
  is = more ∙ (ap (λ k. k + added (look x)) old.is ∙ ap (λ k. distinct_total same xs + k) (added_is (look x) (list_any (same x) xs) (old.told x)));
}
  where
    by : (b c : Bool) → b ≡ c → (o : Option ℕ) (l : Bool) → is_some o ≡ l → is_some (if b then Some v else o) ≡ (c || l)
    by true true e o l is = refl
    by false false e o l is = is
    by true false e o l is = absurd (cc)
    by false true e o l is = absurd (cc)

pub bytes_turned : (x q : List ℕ) → bytes_eq x q ≡ bytes_eq q x
bytes_turned x q = by (bytes_eq x q) (bytes_eq q x) refl refl
  where
    by : (a b : Bool) → bytes_eq x q ≡ a → bytes_eq q x ≡ b → a ≡ b
    by true true e f = refl
    by false false e f = refl
    by true false e f =
        let same : x ≡ q = (bytes_eq-Decides x q).0 e in
        let back : bytes_eq q x ≡ true = (bytes_eq-Decides q x).1 (sym same) in
        sym back ∙ f
    by false true e f =
        let same : q ≡ x = (bytes_eq-Decides q x).0 f in
        let back : bytes_eq x q ≡ true = (bytes_eq-Decides x q).1 (sym same) in
        sym e ∙ back
