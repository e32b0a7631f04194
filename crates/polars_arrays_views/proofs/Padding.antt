-- Lists cut or filled up with zeros, and how they compare.
use Rattle.std.proofs.Common.{◌≡◌, ◌≢◌, ◌≤◌, ◌-◌, ℕ, zero, suc, List, [], ◌∷◌, ◌++◌, length, take, drop, replicate, get_or, refl, sym, ap, ◌∙◌, arith}
use Rattle.std.specs.Cmp.Lexicographic.{slice_cmp}
use Rattle.std.specs.Ordering.{nat_cmp, ordering_then}
use Rattle.std.specs.declared.cmp.Ordering.TheVariants.{Less, Greater}
use Rattle.std.proofs.lemmas.Cmp.{ranked, by_ranked}
use Rattle.std.proofs.lemmas.List.{drop-replicate}
use Rattle.polars_arrays_flat.specs.ByteOrderLaws.{cmp_suc, greater_from, less_from}
use Rattle.polars_arrays_views.specs.Views.{padded, AllZero}

-- a list with zeros from k on is its first k elements, filled up
pub padded_zeros : (n k : ℕ) (xs : List ℕ) → n ≤ length xs → AllZero (drop k xs) → take n xs ≡ padded n (take k xs)
padded_zeros zero k xs within zeros = refl
padded_zeros (suc n) k [] within zeros = absurd (omega arith)
padded_zeros (suc n) zero (x ∷ xs) within zeros =
    let first : x ≡ 0 = zeros 0 (omega arith) in
    let rest = padded_zeros n zero xs (omega arith) (λ k below. zeros (suc k) (omega arith)) in
    cc
padded_zeros (suc n) (suc k) (x ∷ xs) within zeros =
    ap (λ (rest : List ℕ). x ∷ rest) (padded_zeros n k xs (omega arith) zeros)

-- a long list needs no filling
pub padded_long : (n : ℕ) (xs : List ℕ) → n ≤ length xs → padded n xs ≡ take n xs
padded_long zero xs within = refl
padded_long (suc n) [] within = absurd (omega arith)
padded_long (suc n) (x ∷ xs) within =
    ap (λ (rest : List ℕ). x ∷ rest) (padded_long n xs (omega arith))

pub length-padded : (n : ℕ) (xs : List ℕ) → length (padded n xs) ≡ n
length-padded zero xs = refl
length-padded (suc n) [] = ap suc (length-padded n [])
length-padded (suc n) (x ∷ xs) = ap suc (length-padded n xs)

-- an empty list is less than one that differs from it where both are filled up
empty_less : (n : ℕ) (ys : List ℕ) → padded n [] ≢ padded n ys → slice_cmp nat_cmp [] ys ≡ Less
empty_less n [] differ = absurd (differ refl)
empty_less n (y ∷ ys) differ = refl

empty_greater : (n : ℕ) (xs : List ℕ) → padded n xs ≢ padded n [] → slice_cmp nat_cmp xs [] ≡ Greater
empty_greater n [] differ = absurd (differ refl)
empty_greater n (x ∷ xs) differ = refl

-- where the first n bytes differ, they decide
pub padded_decides : (n : ℕ) (xs ys : List ℕ) → padded n xs ≢ padded n ys → slice_cmp nat_cmp (padded n xs) (padded n ys) ≡ slice_cmp nat_cmp xs ys
padded_decides zero xs ys differ = absurd (differ refl)
padded_decides (suc n) [] [] differ = absurd (differ refl)
padded_decides (suc n) [] (y ∷ ys) differ =
    by_ranked _ _ _ (nat_cmp 0 y) (ranked 0 y _ refl)
    (λ e p. rw e refl)
    (λ e p.
    let rest : padded n [] ≢ padded n ys = λ same. differ cc in
    rw e (padded_decides n [] ys rest ∙ empty_less n ys rest))
    (λ e p. absurd (omega arith))
padded_decides (suc n) (x ∷ xs) [] differ =
    by_ranked _ _ _ (nat_cmp x 0) (ranked x 0 _ refl)
    (λ e p. absurd (omega arith))
    (λ e p.
    let rest : padded n xs ≢ padded n [] = λ same. differ cc in
    rw e (padded_decides n xs [] rest ∙ empty_greater n xs rest))
    (λ e p. rw e refl)
padded_decides (suc n) (x ∷ xs) (y ∷ ys) differ =
    by_ranked _ _ _ (nat_cmp x y) (ranked x y _ refl)
    (λ e p. rw e refl)
    (λ e p. rw e (padded_decides n xs ys (λ same. differ cc)))
    (λ e p. rw e refl)

-- filled up, an empty list is not greater
empty_first : (n : ℕ) (ys : List ℕ) → ordering_then (slice_cmp nat_cmp (padded n []) (padded n ys)) Less ≡ Less
empty_first zero ys = refl
empty_first (suc n) [] = empty_first n []
empty_first (suc n) (y ∷ ys) =
    by_ranked _ _ _ (nat_cmp 0 y) (ranked 0 y _ refl)
    (λ e p. rw e refl)
    (λ e p. rw e (empty_first n ys))
    (λ e p. absurd (omega arith))

empty_last : (n : ℕ) (xs : List ℕ) → ordering_then (slice_cmp nat_cmp (padded n xs) (padded n [])) Greater ≡ Greater
empty_last zero xs = refl
empty_last (suc n) [] = empty_last n []
empty_last (suc n) (x ∷ xs) =
    by_ranked _ _ _ (nat_cmp x 0) (ranked x 0 _ refl)
    (λ e p. absurd (omega arith))
    (λ e p. rw e (empty_last n xs))
    (λ e p. rw e refl)

-- byte strings of at most n bytes compare as they do filled up, or else by their lengths
pub filled_decide : (n : ℕ) (xs ys : List ℕ) → length xs ≤ n → length ys ≤ n → slice_cmp nat_cmp xs ys ≡ ordering_then (slice_cmp nat_cmp (padded n xs) (padded n ys)) (nat_cmp (length xs) (length ys))
filled_decide zero [] [] first second = refl
filled_decide zero [] (y ∷ ys) first second = absurd (omega arith)
filled_decide zero (x ∷ xs) ys first second = absurd (omega arith)
filled_decide (suc n) [] [] first second = filled_decide n [] [] (omega arith) (omega arith)
filled_decide (suc n) [] (y ∷ ys) first second =
    sym
    (ap (ordering_then (slice_cmp nat_cmp (padded (suc n) []) (padded (suc n) (y ∷ ys)))) (less_from 0 (suc (length ys)) (omega arith))
    ∙ empty_first (suc n) (y ∷ ys))
filled_decide (suc n) (x ∷ xs) [] first second =
    sym
    (ap (ordering_then (slice_cmp nat_cmp (padded (suc n) (x ∷ xs)) (padded (suc n) []))) (greater_from (suc (length xs)) 0 (omega arith))
    ∙ empty_last (suc n) (x ∷ xs))
filled_decide (suc n) (x ∷ xs) (y ∷ ys) first second =
    by_ranked _ _ _ (nat_cmp x y) (ranked x y _ refl)
    (λ e p. rw e refl)
    (λ e p. rw e (filled_decide n xs ys (omega arith) (omega arith) ∙ ap (ordering_then (slice_cmp nat_cmp (padded n xs) (padded n ys))) (cmp_suc (length xs) (length ys))))
    (λ e p. rw e refl)

-- what four reads give, at 0 past the end
pub padded_four : (xs : List ℕ) → padded 4 xs ≡ get_or xs 0 0 ∷ get_or xs 1 0 ∷ get_or xs 2 0 ∷ get_or xs 3 0 ∷ []
padded_four [] = refl
padded_four (a ∷ []) = refl
padded_four (a ∷ b ∷ []) = refl
padded_four (a ∷ b ∷ c ∷ []) = refl
padded_four (a ∷ b ∷ c ∷ d ∷ xs) = refl

padded-empty : (n : ℕ) → padded n [] ≡ replicate n 0
padded-empty zero = refl
padded-empty (suc n) = ap (λ (rest : List ℕ). 0 ∷ rest) (padded-empty n)

-- a list filled up is itself and then zeros
padded_parts : (n : ℕ) (xs : List ℕ) → length xs ≤ n → padded n xs ≡ xs ++ replicate (n - length xs) 0
padded_parts zero [] within = refl
padded_parts zero (x ∷ xs) within = absurd (omega arith)
padded_parts (suc n) [] within =
    let count : suc n ≡ suc n - 0 = omega arith in
    padded-empty (suc n) ∙ ap (λ (k : ℕ). replicate k 0) count
padded_parts (suc n) (x ∷ xs) within =
    let count : n - length xs ≡ suc n - suc (length xs) = omega arith in
    ap (λ (rest : List ℕ). x ∷ rest) (padded_parts n xs (omega arith)) ∙ ap (λ (k : ℕ). x ∷ (xs ++ replicate k 0)) count

-- what lies after a part of sixteen bytes that was written
pub behind : (n : ℕ) (xs : List ℕ) → length xs ≡ n → n ≤ 12 → xs ++ drop n (replicate 12 0) ≡ padded 12 xs
behind n xs size within =
    ap (λ (rest : List ℕ). xs ++ rest) (drop-replicate n 12 0 ∙ ap (λ (k : ℕ). replicate (12 - k) 0) (sym size)) ∙ sym (padded_parts 12 xs (omega arith))

pub zeros_after : (n : ℕ) (xs : List ℕ) → AllZero (drop (length xs) (padded n xs))
zeros_after zero [] k below = absurd (omega arith)
zeros_after zero (x ∷ xs) k below = absurd (omega arith)
zeros_after (suc n) [] zero below = refl
zeros_after (suc n) [] (suc k) below = zeros_after n [] k (omega arith)
zeros_after (suc n) (x ∷ xs) k below = zeros_after n xs k below

pub front_of_padded : (n : ℕ) (xs : List ℕ) → length xs ≤ n → take (length xs) (padded n xs) ≡ xs
front_of_padded n [] within = refl
front_of_padded zero (x ∷ xs) within = absurd (omega arith)
front_of_padded (suc n) (x ∷ xs) within =
    ap (λ (rest : List ℕ). x ∷ rest) (front_of_padded n xs (omega arith))
