-- The first lines of several lists of lines.
use Rattle.std.proofs.Common.{◌≡◌, ◌-◌, ℕ, zero, suc, List, [], ◌∷◌, ◌++◌, length, map, min, take, arith, ap, sym, ◌∙◌, refl}
use Rattle.std.proofs.lemmas.List.{append_assoc, length-append, length-map, take_min}
use Rattle.std.specs.List.{concat, flat_map}
use Rattle.std.specs.Prelude.{◌+◌}

-- the first n of two lists of lines
pub first_of_two : {X : Type 0} (f : X → List ℕ) (n : ℕ) (xs : List X) (lines : List (List ℕ))
    → concat (take n (map f xs ++ lines)) ≡ flat_map f (take n xs) ++ concat (take (n - length xs) lines)
first_of_two f zero [] lines = refl
first_of_two f zero (x ∷ xs) lines = let none : 0 - length (x ∷ xs) ≡ 0 = omega arith in rw none refl
first_of_two f (suc n) [] lines = let all : suc n - 0 ≡ suc n = omega arith in rw all refl
first_of_two f (suc n) (x ∷ xs) lines =
    let rest : suc n - suc (length xs) ≡ n - length xs = omega arith in
    ap (λ l. f x ++ l) (first_of_two f n xs lines) ∙ (sym (append_assoc (f x) (flat_map f (take n xs)) (concat (take (n - length xs) lines)))
    ∙ ap (λ m. (f x ++ flat_map f (take n xs)) ++ concat (take m lines)) (sym rest))

-- the first n of one list of lines
pub first_of_one : {X : Type 0} (f : X → List ℕ) (n : ℕ) (xs : List X) → concat (take n (map f xs)) ≡ flat_map f (take n xs)
first_of_one f zero xs = refl
first_of_one f (suc n) [] = refl
first_of_one f (suc n) (x ∷ xs) = ap (λ l. f x ++ l) (first_of_one f n xs)

-- the first n of three lists of lines, as they are written one after another
pub first_of_three : {X Y Z : Type 0} (f : X → List ℕ) (g : Y → List ℕ) (h : Z → List ℕ) (old : List ℕ) (n : ℕ) (xs : List X) (ys : List Y) (zs : List Z)
    → ((old ++ flat_map f (take n xs)) ++ flat_map g (take (n - length xs) ys)) ++ flat_map h (take (n - length xs - length ys) zs) ≡ old ++ concat (take n (map f xs ++ map g ys ++ map h zs))
first_of_three f g h old n xs ys zs =
    let last : concat (take (n - length xs - length ys) (map h zs)) ≡ flat_map h (take (n - length xs - length ys) zs) = first_of_one h (n - length xs - length ys) zs in
    rw (append_assoc (map f xs) (map g ys) (map h zs), first_of_two f n xs (map g ys ++ map h zs), first_of_two g (n - length xs) ys (map h zs), last)
    (append_assoc (old ++ flat_map f (take n xs)) (flat_map g (take (n - length xs) ys)) (flat_map h (take (n - length xs - length ys) zs))
    ∙ append_assoc old (flat_map f (take n xs)) (flat_map g (take (n - length xs) ys) ++ flat_map h (take (n - length xs - length ys) zs)))

-- how many they are
pub length_of_three : {X Y Z : Type 0} (f : X → List ℕ) (g : Y → List ℕ) (h : Z → List ℕ) (xs : List X) (ys : List Y) (zs : List Z)
    → length (map f xs ++ map g ys ++ map h zs) ≡ length xs + length ys + length zs
length_of_three f g h xs ys zs =
    let outer = length-append (map f xs ++ map g ys) (map h zs) in
    let inner = length-append (map f xs) (map g ys) in
    omega (arith, outer, inner, length-map xs f, length-map ys g, length-map zs h)

-- three lists of lines that are written one after another, each into the room that is left
pub lines_written : {X Y Z : Type 0} (f : X → List ℕ) (g : Y → List ℕ) (h : Z → List ℕ) (old first second third : List ℕ) (n room left : ℕ) (xs : List X) (ys read_ys : List Y) (zs read_zs : List Z)
    → first ≡ old ++ flat_map f (take n xs) → second ≡ first ++ flat_map g (take room read_ys) → third ≡ second ++ flat_map h (take left read_zs)
    → read_ys ≡ ys → read_zs ≡ zs → room ≡ n - length xs → left ≡ room - length ys
    → third ≡ old ++ concat (take n (map f xs ++ map g ys ++ map h zs))
lines_written f g h old first second third n room left xs ys read_ys zs read_zs a b c same_ys same_zs room_is left_is =
    rw (c, b, a, same_ys, same_zs, left_is, room_is) (first_of_three f g h old n xs ys zs)

-- as many as there are, or the limit
pub shown : {X : Type 0} (xs : List X) (n limit : ℕ) → n ≡ min (length xs) limit → take n xs ≡ take limit xs
shown xs n limit e = let turned : n ≡ min limit (length xs) = omega (arith, e) in ap (λ m. take m xs) turned ∙ take_min limit xs
