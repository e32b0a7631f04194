-- Tests of stored values, as tests of the rows that they stand for.
use Rattle.std.proofs.Common.{◌≡◌, ◌∙◌, ℕ, List, [], ◌∷◌, map, take, drop, refl, sym, ap, ap₂}
use Rattle.std.proofs.lemmas.List.{take-map, drop-map}
use Rattle.std.specs.Simd.Lanes.{zip2}

module _ {A B C : Type 0} (put : A → B) (f : A → A → C) (g : B → B → C) (law : (x y : A) → f x y ≡ g (put x) (put y)) where
  pub zip2-put : (xs ys : List A) → zip2 f xs ys ≡ zip2 g (map put xs) (map put ys)
  zip2-put [] ys = refl
  zip2-put (x ∷ xs) [] = refl
  zip2-put (x ∷ xs) (y ∷ ys) = ap₂ (λ (c : C) (cs : List C). c ∷ cs) (law x y) (zip2-put xs ys)

  window-put : (n at : ℕ) (xs : List A) → map put (take n (drop at xs)) ≡ take n (drop at (map put xs))
  window-put n at xs = sym (ap (take n) (drop-map put at xs) ∙ take-map put n (drop at xs))

  pub windows-put : (n a b : ℕ) (xs ys : List A) → zip2 f (take n (drop a xs)) (take n (drop b ys)) ≡ zip2 g (take n (drop a (map put xs))) (take n (drop b (map put ys)))
  windows-put n a b xs ys = zip2-put (take n (drop a xs)) (take n (drop b ys)) ∙ ap₂ (λ (us vs : List B). zip2 g us vs) (window-put n a xs) (window-put n b ys)

  pub constant-put : (xs : List A) (y : A) → map (λ x. f x y) xs ≡ map (λ r. g r (put y)) (map put xs)
  constant-put [] y = refl
  constant-put (x ∷ xs) y = ap₂ (λ (c : C) (cs : List C). c ∷ cs) (law x y) (constant-put xs y)
