-- Blocks of blocks.
use Rattle.std.proofs.Common.{◌≡◌, ℕ, zero, suc, ◌+◌, ◌*◌, ◌≤◌, Bool, ◌&&◌, List, take, drop, sym, ap, ap₂, ◌∙◌, arith}
use Rattle.std.proofs.Math.Bool.{and-true}
use Rattle.std.proofs.Math.Nat.{mul-add, mul-suc, mul_assoc}
use Rattle.std.proofs.lemmas.List.{length-take, length-drop, get_or-take, get_or-drop, drop-drop}
use Rattle.std.proofs.Math.Seq.{take-add}
use Rattle.std.proofs.lemmas.List.Folds.{list_all-append}
use Rattle.std.specs.List.{list_all}
use Rattle.polars_arrays_words.specs.Bits.{first_of}
use Rattle.polars_arrays_words.specs.Blocks.{blocks_all}
use Rattle.polars_arrays_words.proofs.BlockPlaces.{block_end}
use Rattle.polars_arrays_words.proofs.Firsts.{length-first, get_or-first, first_is, first_same, first-append}

-- whether the values of a block are all true
abbrev all_in : ℕ → ℕ → List Bool → Bool
all_in width i xs = list_all (λ b. b) (take width (drop (width * i) xs))

-- a part of the first values
first-part : (f : ℕ → Bool) (n p m : ℕ) → p + m ≤ n → first_of (λ j. f (p + j)) m ≡ take m (drop p (first_of f n))
first-part f n p m le =
    let xs : List Bool = first_of f n in
    first_is (λ j. f (p + j)) m (take m (drop p xs)) (omega (arith, length-take m (drop p xs), length-drop p xs, length-first f n))
    (λ j d lt. sym (get_or-take m (drop p xs) j d lt ∙ get_or-drop p xs j d ∙ get_or-first f n (p + j) d (omega arith)))

-- the values of w blocks one after the other
all-blocks : (v q w : ℕ) (xs : List Bool) → list_all (λ b. b) (first_of (λ j. all_in v (q + j) xs) w) ≡ list_all (λ b. b) (take (v * w) (drop (v * q) xs))
all-blocks v q zero xs =
    let none : 0 ≡ v * 0 = omega arith in
    ap (λ k. list_all (λ b. b) (take k (drop (v * q) xs))) none
all-blocks v q (suc w) xs =
    let next : suc w ≡ w + 1 = omega arith in
    let last : q + (w + 0) ≡ q + w = omega arith in
    let ys : List Bool = drop (v * q) xs in
    ap (λ k. list_all (λ b. b) (first_of (λ j. all_in v (q + j) xs) k)) next
    ∙ ap (list_all (λ b. b)) (first-append (λ j. all_in v (q + j) xs) w 1)
    ∙ list_all-append (λ b. b) (first_of (λ j. all_in v (q + j) xs) w) (first_of (λ j. all_in v (q + (w + j)) xs) 1)
    ∙ ap₂ ◌&&◌ (all-blocks v q w xs)
    (and-true (all_in v (q + (w + 0)) xs)
    ∙ ap (λ i. all_in v i xs) last
    ∙ ap (λ k. list_all (λ b. b) (take v (drop k xs))) (mul-add v q w)
    ∙ ap (λ l. list_all (λ b. b) (take v l)) (sym (drop-drop (v * w) (v * q) xs)))
    ∙ sym (list_all-append (λ b. b) (take (v * w) ys) (take v (drop (v * w) ys)))
    ∙ ap (list_all (λ b. b)) (sym (take-add (v * w) v ys))
    ∙ ap (λ k. list_all (λ b. b) (take k ys)) (sym (mul-suc v w))

-- blocks of w blocks of v values each
pub blocks-nested : (v w n m : ℕ) (xs : List Bool) → m ≡ w * n → blocks_all w n (blocks_all v m xs) ≡ blocks_all (v * w) n xs
blocks-nested v w n m xs e =
    first_same (λ i. all_in w i (blocks_all v m xs)) (λ i. all_in (v * w) i xs) n
    (λ i lt.
    ap (list_all (λ b. b)) (sym (first-part (λ j. all_in v j xs) m (w * i) w (omega (arith, block_end w i n lt))))
    ∙ all-blocks v (w * i) w xs
    ∙ ap (λ k. list_all (λ b. b) (take (v * w) (drop k xs))) (sym (mul_assoc v w i)))
