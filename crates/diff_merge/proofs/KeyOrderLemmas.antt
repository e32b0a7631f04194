-- Keys are in the order of their cells.
use Rattle.std.proofs.Common.{◌≡◌, ◌∙◌, ℕ, zero, suc, List, [], ◌∷◌, ◌++◌, get_or, arith, ap, sym, refl}
use Rattle.std.specs.Cmp.{nat_cmp_is}
use Rattle.std.specs.Cmp.Lexicographic.{slice_cmp}
use Rattle.std.specs.Ordering.{nat_cmp, ordering_then}
use Rattle.std.specs.declared.cmp.Ordering.{Ordering}
use Rattle.std.specs.declared.cmp.Ordering.TheVariants.{Less, Equal, Greater}
use Rattle.diff_merge.specs.Order.{cells_cmp}
use Rattle.diff_tables.specs.Keys.{escaped, row_key}

less_zero : (y : ℕ) → nat_cmp 0 (suc y) ≡ Less
less_zero y = sym (nat_cmp_is 0 (suc y) Less (omega arith))

more_zero : (x : ℕ) → nat_cmp (suc x) 0 ≡ Greater
more_zero x = sym (nat_cmp_is (suc x) 0 Greater (omega arith))

-- a comparison of three parts
then_then : (a b c : Ordering) → ordering_then a (ordering_then b c) ≡ ordering_then (ordering_then a b) c
then_then Less b c = refl
then_then Equal b c = refl
then_then Greater b c = refl

-- byte strings that show their ends, with others after them
escaped_cmp : (xs ys us vs : List ℕ) → slice_cmp nat_cmp (escaped xs ++ us) (escaped ys ++ vs) ≡ ordering_then (slice_cmp nat_cmp xs ys) (slice_cmp nat_cmp us vs)
unfolding escaped
escaped_cmp [] [] us vs = refl
escaped_cmp [] (zero ∷ ys) us vs = refl
escaped_cmp [] (suc y ∷ ys) us vs = ap (λ o. ordering_then o (slice_cmp nat_cmp (0 ∷ us) (escaped ys ++ vs))) (less_zero y)
escaped_cmp (zero ∷ xs) [] us vs = refl
escaped_cmp (suc x ∷ xs) [] us vs = ap (λ o. ordering_then o (slice_cmp nat_cmp (escaped xs ++ us) (0 ∷ vs))) (more_zero x)
escaped_cmp (zero ∷ xs) (zero ∷ ys) us vs = escaped_cmp xs ys us vs
escaped_cmp (zero ∷ xs) (suc y ∷ ys) us vs =
    ap (λ o. ordering_then o (slice_cmp nat_cmp (1 ∷ (escaped xs ++ us)) (escaped ys ++ vs))) (less_zero y)
    ∙ sym (ap (λ o. ordering_then (ordering_then o (slice_cmp nat_cmp xs ys)) (slice_cmp nat_cmp us vs)) (less_zero y))
escaped_cmp (suc x ∷ xs) (zero ∷ ys) us vs =
    ap (λ o. ordering_then o (slice_cmp nat_cmp (escaped xs ++ us) (1 ∷ (escaped ys ++ vs)))) (more_zero x)
    ∙ sym (ap (λ o. ordering_then (ordering_then o (slice_cmp nat_cmp xs ys)) (slice_cmp nat_cmp us vs)) (more_zero x))
escaped_cmp (suc x ∷ xs) (suc y ∷ ys) us vs =
    ap (λ o. ordering_then (nat_cmp (suc x) (suc y)) o) (escaped_cmp xs ys us vs) ∙ then_then (nat_cmp (suc x) (suc y)) (slice_cmp nat_cmp xs ys) (slice_cmp nat_cmp us vs)

pub keys_cmp : (columns : List ℕ) (a b : List (List ℕ)) → slice_cmp nat_cmp (row_key columns a) (row_key columns b) ≡ cells_cmp columns a b
unfolding row_key
keys_cmp [] a b = refl
keys_cmp (c ∷ columns) a b = escaped_cmp (get_or a c []) (get_or b c []) (row_key columns a) (row_key columns b)
    ∙ ap (λ o. ordering_then (slice_cmp nat_cmp (get_or a c []) (get_or b c [])) o) (keys_cmp columns a b)
