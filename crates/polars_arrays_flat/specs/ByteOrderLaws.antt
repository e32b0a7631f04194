-- Comparison of byte strings by their parts, and by the big-endian numbers of their bytes.
use Rattle.std.proofs.Common.{◌≡◌, ◌≤◌, ◌<◌, ◌+◌, ◌*◌, ℕ, zero, suc, List, [], ◌∷◌, length, take}
use Rattle.std.proofs.Common.{drop, min, refl, sym, subst, ap, ◌∙◌, arith}
use Rattle.std.specs.Int.{w32, w64, from_be_bytes}
use Rattle.std.specs.Cmp.Lexicographic.{slice_cmp}
use Rattle.std.specs.Ordering.{nat_cmp, ordering_then}
use Rattle.std.specs.declared.cmp.Ordering.TheVariants.{Less, Equal, Greater}
use Rattle.std.proofs.lemmas.Bool.Decides.{nat_tests}
use Rattle.std.proofs.lemmas.Cmp.{ranked, by_ranked}
use Rattle.std.proofs.lemmas.List.{get_or-drop}
use Rattle.std.proofs.lemmas.Nat.{row_fits}
use Rattle.polars_arrays_flat.specs.ByteOrder.{AreBytes}

pub less_from : (x y : ℕ) → x < y → nat_cmp x y ≡ Less
less_from x y h = grind (arith, nat_tests)

pub greater_from : (x y : ℕ) → y < x → nat_cmp x y ≡ Greater
greater_from x y h = grind (arith, nat_tests)

pub equal_from : (x y : ℕ) → x ≡ y → nat_cmp x y ≡ Equal
equal_from x y h = grind (arith, nat_tests)

-- two numbers compare as their successors do
pub cmp_suc : (m n : ℕ) → nat_cmp m n ≡ nat_cmp (suc m) (suc n)
cmp_suc m n =
    by_ranked _ _ _ (nat_cmp m n) (ranked m n _ refl)
    (λ e p. e ∙ sym (less_from (suc m) (suc n) (omega arith)))
    (λ e p. e ∙ sym (equal_from (suc m) (suc n) (omega arith)))
    (λ e p. e ∙ sym (greater_from (suc m) (suc n) (omega arith)))

-- ---- parts
-- the first m elements decide, or else the elements from an earlier place on
pub overlap : (m k : ℕ) (xs ys : List ℕ) → k ≤ m → slice_cmp nat_cmp xs ys
    ≡ ordering_then (slice_cmp nat_cmp (take m xs) (take m ys))
    (slice_cmp nat_cmp (drop k xs) (drop k ys))
overlap zero zero xs ys within = refl
overlap zero (suc k) xs ys within = absurd (omega arith)
overlap (suc m) zero [] [] within = refl
overlap (suc m) zero [] (y ∷ ys) within = refl
overlap (suc m) zero (x ∷ xs) [] within = refl
overlap (suc m) zero (x ∷ xs) (y ∷ ys) within =
    by_ranked _ _ _ (nat_cmp x y) (ranked x y _ refl)
    (λ e p. rw e refl)
    (λ e p. rw e (overlap m zero xs ys (omega arith)))
    (λ e p. rw e refl)
overlap (suc m) (suc k) [] [] within = refl
overlap (suc m) (suc k) [] (y ∷ ys) within = refl
overlap (suc m) (suc k) (x ∷ xs) [] within = refl
overlap (suc m) (suc k) (x ∷ xs) (y ∷ ys) within =
    by_ranked _ _ _ (nat_cmp x y) (ranked x y _ refl)
    (λ e p. rw e refl)
    (λ e p. rw e (overlap m k xs ys (omega arith)))
    (λ e p. rw e refl)

-- the common elements decide, or else the lengths
pub by_length : (n : ℕ) (xs ys : List ℕ) → n ≡ min (length xs) (length ys) → slice_cmp nat_cmp xs ys
    ≡ ordering_then (slice_cmp nat_cmp (take n xs) (take n ys)) (nat_cmp (length xs) (length ys))
by_length zero [] [] e = refl
by_length zero [] (y ∷ ys) e = sym (less_from 0 (suc (length ys)) (omega arith))
by_length zero (x ∷ xs) [] e = sym (greater_from (suc (length xs)) 0 (omega arith))
by_length zero (x ∷ xs) (y ∷ ys) e = absurd (omega arith)
by_length (suc n) [] ys e = absurd (omega arith)
by_length (suc n) (x ∷ xs) [] e = absurd (omega arith)
by_length (suc n) (x ∷ xs) (y ∷ ys) e =
    by_ranked _ _ _ (nat_cmp x y) (ranked x y _ refl)
    (λ f p. rw f refl)
    (λ f p. rw f (by_length n xs ys (omega arith) ∙ ap
    (ordering_then (slice_cmp nat_cmp (take n xs) (take n ys)))
    (cmp_suc (length xs) (length ys))))
    (λ f p. rw f refl)

-- ---- numbers
-- a greater digit outweighs all digits after it
pub digit_step : (k a b r s : ℕ) → r < k → s < k → nat_cmp (a * k + r) (b * k + s)
    ≡ ordering_then (nat_cmp a b) (nat_cmp r s)
digit_step k a b r s h g =
    by_ranked _ _ _ (nat_cmp a b) (ranked a b _ refl)
    (λ e p. rw e (less_from (a * k + r) (b * k + s)
    (omega (arith, row_fits a k b k p (omega arith)))))
    (λ e p. rw e (rw p (
    by_ranked _ _ _ (nat_cmp r s) (ranked r s _ refl)
    (λ f q. rw f (less_from (b * k + r) (b * k + s) (omega arith)))
    (λ f q. rw f (equal_from (b * k + r) (b * k + s) (omega arith)))
    (λ f q. rw f (greater_from (b * k + r) (b * k + s) (omega arith))))))
    (λ e p. rw e (greater_from (a * k + r) (b * k + s)
    (omega (arith, row_fits b k a k p (omega arith)))))

-- the weight of a byte before these bytes
abbrev worth : List ℕ → ℕ
worth [] = 1
worth (x ∷ xs) = 256 * worth xs

-- the big-endian number of bytes
abbrev number : List ℕ → ℕ
number [] = 0
number (x ∷ xs) = x * worth xs + number xs

same_worth : (xs ys : List ℕ) → length xs ≡ length ys → worth xs ≡ worth ys
same_worth [] [] e = refl
same_worth [] (y ∷ ys) e = absurd (omega arith)
same_worth (x ∷ xs) [] e = absurd (omega arith)
same_worth (x ∷ xs) (y ∷ ys) e = ap (λ (n : ℕ). 256 * n) (same_worth xs ys (omega arith))

number_below : (xs : List ℕ) → AreBytes xs → number xs < worth xs
number_below [] bytes = omega arith
number_below (x ∷ xs) bytes =
    let rest = number_below xs (λ k. bytes (suc k)) in
    omega (arith, rest, row_fits x (worth xs) 256 (worth xs) (bytes 0) (omega arith))

number_decides : (xs ys : List ℕ) → length xs ≡ length ys → AreBytes xs → AreBytes ys
    → nat_cmp (number xs) (number ys) ≡ slice_cmp nat_cmp xs ys
number_decides [] [] e x y = refl
number_decides [] (b ∷ ys) e x y = absurd (omega arith)
number_decides (a ∷ xs) [] e x y = absurd (omega arith)
number_decides (a ∷ xs) (b ∷ ys) e x y =
    let same : length xs ≡ length ys = omega arith in
    let other : worth ys ≡ worth xs = sym (same_worth xs ys same) in
    let below : number ys < worth xs = subst
    (λ (n : ℕ). number ys < n) other (number_below ys (λ i. y (suc i))) in
    ap (λ (n : ℕ). nat_cmp (a * worth xs + number xs) (b * n + number ys)) other
    ∙ digit_step (worth xs) a b (number xs) (number ys) (number_below xs (λ i. x (suc i))) below
    ∙ ap (ordering_then (nat_cmp a b)) (number_decides xs ys same (λ i. x (suc i)) (λ i. y (suc i)))

four_spell : (a b c d : ℕ) → from_be_bytes w32 (a ∷ b ∷ c ∷ d ∷ []) ≡ number (a ∷ b ∷ c ∷ d ∷ [])
four_spell a b c d = omega arith

eight_spell : (a b c d e f g h : ℕ) → from_be_bytes w64 (a ∷ b ∷ c ∷ d ∷ e ∷ f ∷ g ∷ h ∷ [])
    ≡ number (a ∷ b ∷ c ∷ d ∷ e ∷ f ∷ g ∷ h ∷ [])
eight_spell a b c d e f g h = omega arith

spell_four : (xs : List ℕ) → length xs ≡ 4 → from_be_bytes w32 xs ≡ number xs
spell_four (a ∷ b ∷ c ∷ d ∷ []) size = four_spell a b c d
spell_four xs size = absurd (omega arith)

spell_eight : (xs : List ℕ) → length xs ≡ 8 → from_be_bytes w64 xs ≡ number xs
spell_eight (a ∷ b ∷ c ∷ d ∷ e ∷ f ∷ g ∷ h ∷ []) size = eight_spell a b c d e f g h
spell_eight xs size = absurd (omega arith)

-- four bytes compare as their big-endian numbers
pub four_decide : (xs ys : List ℕ) → length xs ≡ 4 → length ys ≡ 4 → AreBytes xs → AreBytes ys
    → nat_cmp (from_be_bytes w32 xs) (from_be_bytes w32 ys) ≡ slice_cmp nat_cmp xs ys
four_decide xs ys p q x y =
    rw (spell_four xs p, spell_four ys q) (number_decides xs ys (p ∙ sym q) x y)

-- eight bytes compare as their big-endian numbers
pub eight_decide : (xs ys : List ℕ) → length xs ≡ 8 → length ys ≡ 8 → AreBytes xs → AreBytes ys
    → nat_cmp (from_be_bytes w64 xs) (from_be_bytes w64 ys) ≡ slice_cmp nat_cmp xs ys
eight_decide xs ys p q x y =
    rw (spell_eight xs p, spell_eight ys q) (number_decides xs ys (p ∙ sym q) x y)

pub bytes_take : (n : ℕ) (xs : List ℕ) → AreBytes xs → AreBytes (take n xs)
bytes_take zero xs b k = omega arith
bytes_take (suc n) [] b k = omega arith
bytes_take (suc n) (x ∷ xs) b zero = b zero
bytes_take (suc n) (x ∷ xs) b (suc k) = bytes_take n xs (λ j. b (suc j)) k

pub bytes_drop : (n : ℕ) (xs : List ℕ) → AreBytes xs → AreBytes (drop n xs)
bytes_drop n xs b k = rw get_or-drop (b (n + k))
