-- Byte strings that are compared by parts of them.
use Rattle.std.proofs.Common.{◌≡◌, ◌≢◌, ◌≤◌, ◌<◌, ◌+◌, ◌-◌, ◌*◌, ℕ, zero, suc, Bool, true, false, cond, nat_lt, List, [], ◌∷◌, length, take, drop, min, refl, sym, ap, ◌∙◌, arith}
use Rattle.std.specs.Int.{w32, w64, from_be_bytes}
use Rattle.std.specs.Cmp.Lexicographic.{slice_cmp}
use Rattle.std.specs.Ordering.{nat_cmp, is_lt, ordering_then}
use Rattle.std.specs.declared.cmp.Ordering.{Ordering}
use Rattle.std.specs.declared.cmp.Ordering.TheVariants.{Less, Equal, Greater}
use Rattle.std.proofs.lemmas.Cmp.{ranked, by_ranked}
use Rattle.std.proofs.lemmas.List.{drop-take, length-drop, length-take, take-take}
use Rattle.polars_arrays_flat.specs.ByteOrder.{AreBytes, bytes_lt, few_number}
use Rattle.polars_arrays_flat.specs.ByteOrderLaws.{by_length, bytes_drop, bytes_take, digit_step, eight_decide, equal_from, four_decide, overlap}

test_of_cmp : (b c : Bool) → b ≡ is_lt (cond b Less (cond c Equal Greater))
test_of_cmp true c = refl
test_of_cmp false true = refl
test_of_cmp false false = refl

decided : (p q : ℕ) (o : Ordering) → p ≢ q → nat_cmp p q ≡ ordering_then (nat_cmp p q) o
decided p q o differ =
    by_ranked _ _ _ (nat_cmp p q) (ranked p q _ refl)
    (λ e h. rw e refl)
    (λ e h. absurd (differ h))
    (λ e h. rw e refl)

-- numbers that differ decide
pub less_decided : (p q : ℕ) (o : Ordering) → p ≢ q → nat_lt p q ≡ is_lt (ordering_then (nat_cmp p q) o)
less_decided p q o differ = test_of_cmp _ _ ∙ ap is_lt (decided p q o differ)

-- the part that ends at n decides, where the places before are in the first m
part : (m j w n : ℕ) (xs ys : List ℕ) → j ≤ m → m ≤ n → n ≡ j + w
    → slice_cmp nat_cmp (take n xs) (take n ys) ≡ ordering_then (slice_cmp nat_cmp (take m xs) (take m ys)) (slice_cmp nat_cmp (take w (drop j xs)) (take w (drop j ys)))
part m j w n xs ys before within e =
    overlap m j (take n xs) (take n ys) before
    ∙ (λ i. ordering_then (slice_cmp nat_cmp (take-take m n xs within i) (take-take m n ys within i)) (slice_cmp nat_cmp (cut xs i) (cut ys i)))
  where
    cut : (l : List ℕ) → drop j (take n l) ≡ take w (drop j l)
    cut l = ap (λ (k : ℕ). drop j (take k l)) e ∙ drop-take j w l

-- p and q are the numbers that the eight bytes from a place on spell
pub record AreWords (at : ℕ) (xs ys : List ℕ) (p q : ℕ) : Type 0 where
  pub left_in : at + 8 ≤ length xs
  pub right_in : at + 8 ≤ length ys
  pub left_bytes : AreBytes xs
  pub right_bytes : AreBytes ys
  pub left_is : p ≡ from_be_bytes w64 (take 8 (drop at xs))
  pub right_is : q ≡ from_be_bytes w64 (take 8 (drop at ys))

module _ (at : ℕ) (xs ys : List ℕ) (p q : ℕ) (words : AreWords at xs ys p q) where
  words_decide : nat_cmp p q ≡ slice_cmp nat_cmp (take 8 (drop at xs)) (take 8 (drop at ys))
  words_decide =
      (λ i. nat_cmp (words.left_is i) (words.right_is i))
      ∙ eight_decide (take 8 (drop at xs)) (take 8 (drop at ys))
      (simp (length-take, length-drop) (omega (arith, words.left_in))) (simp (length-take, length-drop) (omega (arith, words.right_in)))
      (bytes_take 8 (drop at xs) (bytes_drop at xs words.left_bytes)) (bytes_take 8 (drop at ys) (bytes_drop at ys words.right_bytes))

  -- where the bytes before are the same and the words differ, these decide
  pub word_differs : slice_cmp nat_cmp (take at xs) (take at ys) ≡ Equal → p ≢ q → nat_lt p q ≡ bytes_lt xs ys
  word_differs same differ =
      less_decided p q (slice_cmp nat_cmp (drop 8 (drop at xs)) (drop 8 (drop at ys))) differ
      ∙ ap (λ (o : Ordering). is_lt (ordering_then o (slice_cmp nat_cmp (drop 8 (drop at xs)) (drop 8 (drop at ys))))) words_decide
      ∙ sym
      (ap is_lt
      (overlap at at xs ys (omega arith)
      ∙ ap (λ (o : Ordering). ordering_then o (slice_cmp nat_cmp (drop at xs) (drop at ys))) same
      ∙ overlap 8 8 (drop at xs) (drop at ys) (omega arith)))

  -- where the words are the same too, so are the bytes up to their end
  pub word_agrees : (n : ℕ) → n ≡ at + 8 → slice_cmp nat_cmp (take at xs) (take at ys) ≡ Equal → p ≡ q → slice_cmp nat_cmp (take n xs) (take n ys) ≡ Equal
  word_agrees n e same agree =
      part at at 8 n xs ys (omega arith) (omega arith) e
      ∙ ap (λ (o : Ordering). ordering_then o (slice_cmp nat_cmp (take 8 (drop at xs)) (take 8 (drop at ys)))) same
      ∙ sym words_decide
      ∙ equal_from p q agree

  -- the last word decides, or else the lengths
  pub last_word : (m n : ℕ) → at ≤ m → m ≤ n → n ≡ at + 8 → n ≡ min (length xs) (length ys) → slice_cmp nat_cmp (take m xs) (take m ys) ≡ Equal
      → is_lt (ordering_then (nat_cmp p q) (nat_cmp (length xs) (length ys))) ≡ bytes_lt xs ys
  last_word m n before within e common same =
      let word : slice_cmp nat_cmp (take n xs) (take n ys) ≡ nat_cmp p q =
      part m at 8 n xs ys before within e
      ∙ ap (λ (o : Ordering). ordering_then o (slice_cmp nat_cmp (take 8 (drop at xs)) (take 8 (drop at ys)))) same
      ∙ sym words_decide in
      sym
      (ap is_lt
      (by_length n xs ys common ∙ ap (λ (o : Ordering). ordering_then o (nat_cmp (length xs) (length ys))) word))

-- p is the number that the first and the last four of n bytes spell
abbrev pub AreEnds : ℕ → List ℕ → ℕ → Type 0
AreEnds n xs p =
    (p ≡ from_be_bytes w32 (take 4 xs) * 4294967296 + from_be_bytes w32 (take 4 (drop (n - 4) xs))) × (from_be_bytes w32 (take 4 (drop (n - 4) xs)) < 4294967296) × AreBytes xs

four_in : (at : ℕ) (xs ys : List ℕ) → at + 4 ≤ length xs → at + 4 ≤ length ys → AreBytes xs → AreBytes ys
    → nat_cmp (from_be_bytes w32 (take 4 (drop at xs))) (from_be_bytes w32 (take 4 (drop at ys))) ≡ slice_cmp nat_cmp (take 4 (drop at xs)) (take 4 (drop at ys))
four_in at xs ys left_in right_in x y =
    four_decide (take 4 (drop at xs)) (take 4 (drop at ys))
    (simp (length-take, length-drop) (omega arith)) (simp (length-take, length-drop) (omega arith))
    (bytes_take 4 (drop at xs) (bytes_drop at xs x)) (bytes_take 4 (drop at ys) (bytes_drop at ys y))

-- four to eight bytes compare by their ends, or else by the lengths
pub ends_decide : (n : ℕ) (xs ys : List ℕ) (p q : ℕ) → 4 ≤ n → n ≤ 8 → n ≡ min (length xs) (length ys) → AreEnds n xs p → AreEnds n ys q
    → is_lt (ordering_then (nat_cmp p q) (nat_cmp (length xs) (length ys))) ≡ bytes_lt xs ys
ends_decide n xs ys p q some few common first second =
    let at = n - 4 in
    let numbers : nat_cmp p q ≡ slice_cmp nat_cmp (take n xs) (take n ys) =
    (λ i. nat_cmp (first.0 i) (second.0 i))
    ∙ digit_step 4294967296 _ _ _ _ first.1 second.1
    ∙ (λ i. ordering_then (four_in 0 xs ys (omega arith) (omega arith) first.2 second.2 i) (four_in at xs ys (omega arith) (omega arith) first.2 second.2 i))
    ∙ sym (part 4 at 4 n xs ys (omega arith) some (omega arith)) in
    sym (ap is_lt (by_length n xs ys common ∙ ap (λ (o : Ordering). ordering_then o (nat_cmp (length xs) (length ys))) (sym numbers)))

four_bytes : (a b c d : ℕ) → a < 256 → b < 256 → c < 256 → d < 256 → AreBytes (a ∷ b ∷ c ∷ d ∷ [])
four_bytes a b c d e f g h zero = e
four_bytes a b c d e f g h (suc zero) = f
four_bytes a b c d e f g h (suc (suc zero)) = g
four_bytes a b c d e f g h (suc (suc (suc zero))) = h
four_bytes a b c d e f g h (suc (suc (suc (suc k)))) = omega arith

again : (o e : Ordering) → ordering_then o (ordering_then o e) ≡ ordering_then o e
again Less e = refl
again Equal e = refl
again Greater e = refl

-- up to three bytes compare by the number of the first, the middle and the last
few_number_decides : (n : ℕ) (xs ys : List ℕ) → n < 4 → n ≤ length xs → n ≤ length ys → AreBytes xs → AreBytes ys → nat_cmp (few_number n xs) (few_number n ys) ≡ slice_cmp nat_cmp (take n xs) (take n ys)
few_number_decides zero xs ys few left_in right_in x y = refl
few_number_decides (suc zero) (a ∷ xs) (b ∷ ys) few left_in right_in x y =
    four_decide (0 ∷ a ∷ a ∷ a ∷ []) (0 ∷ b ∷ b ∷ b ∷ []) refl refl (four_bytes 0 a a a (omega arith) (x 0) (x 0) (x 0)) (four_bytes 0 b b b (omega arith) (y 0) (y 0) (y 0))
    ∙ again (nat_cmp a b) (ordering_then (nat_cmp a b) Equal)
    ∙ again (nat_cmp a b) Equal
few_number_decides (suc (suc zero)) (a ∷ c ∷ xs) (b ∷ d ∷ ys) few left_in right_in x y =
    four_decide (0 ∷ a ∷ c ∷ c ∷ []) (0 ∷ b ∷ d ∷ d ∷ []) refl refl (four_bytes 0 a c c (omega arith) (x 0) (x 1) (x 1)) (four_bytes 0 b d d (omega arith) (y 0) (y 1) (y 1))
    ∙ ap (ordering_then (nat_cmp a b)) (again (nat_cmp c d) Equal)
few_number_decides (suc (suc (suc zero))) (a ∷ c ∷ e ∷ xs) (b ∷ d ∷ f ∷ ys) few left_in right_in x y =
    four_decide (0 ∷ a ∷ c ∷ e ∷ []) (0 ∷ b ∷ d ∷ f ∷ []) refl refl (four_bytes 0 a c e (omega arith) (x 0) (x 1) (x 2)) (four_bytes 0 b d f (omega arith) (y 0) (y 1) (y 2))
few_number_decides n xs ys few left_in right_in x y = absurd (omega arith)

pub few_decide : (n : ℕ) (xs ys : List ℕ) (p q : ℕ) → n < 4 → n ≡ min (length xs) (length ys) → AreBytes xs → AreBytes ys → p ≡ few_number n xs → q ≡ few_number n ys
    → is_lt (ordering_then (nat_cmp p q) (nat_cmp (length xs) (length ys))) ≡ bytes_lt xs ys
few_decide n xs ys p q few common x y e f =
    let numbers : nat_cmp p q ≡ slice_cmp nat_cmp (take n xs) (take n ys) =
    (λ i. nat_cmp (e i) (f i)) ∙ few_number_decides n xs ys few (omega arith) (omega arith) x y in
    sym (ap is_lt (by_length n xs ys common ∙ ap (λ (o : Ordering). ordering_then o (nat_cmp (length xs) (length ys))) (sym numbers)))
