-- Rows of a word that are marked one after another.
use Rattle.std.proofs.Common.{◌≡◌, ◌≢◌, ◌<◌, ◌≤◌, ◌+◌, ◌-◌, ◌^◌, ◌∙◌, ◌||◌, ◌&&◌, ℕ, zero, suc, Bool, true, false, not, List, [], ◌∷◌, length, map, get_or, refl, sym, ap, ap₂, arith}
use Rattle.std.specs.Prelude.{ℤ, slice_set}
use Rattle.std.specs.List.{range_with_len}
use Rattle.std.proofs.lemmas.Bool.{cases_eq, cases_lt}
use Rattle.std.proofs.lemmas.List.{same_lists, length-set, get_or-set_same, get_or-set_other}
use Rattle.std.proofs.lemmas.List.FromFn.{length-map-range_with_len, get_or-map-range_with_len}
use Rattle.polars_arrays_flat.specs.Row.{Row, Int}
use Rattle.polars_arrays_flat.specs.StoredRows.{kept, masked, row}
use Rattle.polars_arrays_words.proofs.WrittenBits.{ones_bit, zeros_bit}
use Rattle.polars_arrays_words.specs.Bits.{first_of, is_bit}
use Rattle.polars_compute_slots.specs.State.{holds, is_value}
use Rattle.arrow_unique.proofs.Marked.{marked-rows, marked-then}
use Rattle.arrow_unique.specs.Memory.{AreMarked}
use mathlib.Core.Logic.{⊎_elim}

-- ---- lists of bits

pub length-first : (f : ℕ → Bool) (n : ℕ) → length (first_of f n) ≡ n
length-first f n = length-map-range_with_len f 0 n

pub get_or-first : (f : ℕ → Bool) (n i : ℕ) (d : Bool) → i < n → get_or (first_of f n) i d ≡ f i
get_or-first f n i d lt = get_or-map-range_with_len f 0 n i i d lt (omega arith)

agree : (f g : ℕ → Bool) (a n : ℕ) → ((i : ℕ) → f i ≡ g i) → map f (range_with_len a n) ≡ map g (range_with_len a n)
agree f g a zero same = refl
agree f g a (suc n) same = ap₂ (λ (b : Bool) (bs : List Bool). b ∷ bs) (same a) (agree f g (a + 1) n same)

-- ---- rows that have a value

or-again : (a x : Bool) → (a || x) ≡ ((false || x) || a)
or-again true true = refl
or-again true false = refl
or-again false true = refl
or-again false false = refl

or-same : (a x : Bool) → (a || x) ≡ ((a || x) || a)
or-same true x = refl
or-same false true = refl
or-same false false = refl

or-right : (a x b : Bool) → (a || (x || b)) ≡ ((a || x) || b)
or-right true x b = refl
or-right false x b = refl

-- one row more is present
holds-set : (v : ℤ) (bits : List Bool) (slots : List Row) (p : ℕ) → length bits ≡ length slots → p < length slots → holds (masked (slice_set bits p true) slots) v ≡ (holds (masked bits slots) v || is_value v (row slots p))
holds-set v [] [] p long lt = absurd (omega arith)
holds-set v [] (r ∷ slots) p long lt = absurd (omega arith)
holds-set v (b ∷ bits) [] p long lt = absurd (omega arith)
holds-set v (false ∷ bits) (r ∷ slots) zero long lt = or-again (is_value v r) (holds (masked bits slots) v)
holds-set v (true ∷ bits) (r ∷ slots) zero long lt = or-same (is_value v r) (holds (masked bits slots) v)
holds-set v (b ∷ bits) (r ∷ slots) (suc p) long lt =
    ap (λ c. is_value v (kept b r) || c) (holds-set v bits slots p (omega arith) (omega arith))
    ∙ or-right (is_value v (kept b r)) (holds (masked bits slots) v) (is_value v (row slots p))

-- no row is present
holds-out : (v : ℤ) (f : ℕ → Bool) (a n : ℕ) (slots : List Row) → ((i : ℕ) → f i ≡ false) → holds (masked (map f (range_with_len a n)) slots) v ≡ false
holds-out v f a zero slots out = refl
holds-out v f a (suc n) [] out = refl
holds-out v f a (suc n) (r ∷ slots) out =
    ap (λ b. is_value v (kept b r) || holds (masked (map f (range_with_len (a + 1) n)) slots) v) (out a) ∙ holds-out v f (a + 1) n slots out

-- all are
masked-all : (f : ℕ → Bool) (a n : ℕ) (slots : List Row) → length slots ≡ n → ((i : ℕ) → i < a + n → f i ≡ true) → masked (map f (range_with_len a n)) slots ≡ slots
masked-all f a zero [] long all = refl
masked-all f a zero (r ∷ slots) long all = absurd (omega arith)
masked-all f a (suc n) [] long all = absurd (omega arith)
masked-all f a (suc n) (r ∷ slots) long all =
    ap₂ (λ (x : Row) (xs : List Row). x ∷ xs) (ap (λ b. kept b r) (all a (omega arith))) (masked-all f (a + 1) n slots (omega arith) (λ i lt. all i (omega arith)))

-- a word of ones
pub masked-ones : (n : ℕ) (slots : List Row) → n ≤ 64 → length slots ≡ n → masked (first_of (is_bit (2 ^ 64 - 1)) n) slots ≡ slots
masked-ones n slots few long = masked-all (is_bit (2 ^ 64 - 1)) 0 n slots long (λ i lt. ones_bit i (omega arith))

-- ---- the rows of a word, without those that are left

-- bit i of a word, if it is not left
abbrev pub is_done : ℕ → ℕ → ℕ → Bool
is_done present rest i = is_bit present i && not (is_bit rest i)

not-both : (b : Bool) → (b && not b) ≡ false
not-both true = refl
not-both false = refl

and-true : (b : Bool) → (b && true) ≡ b
and-true true = refl
and-true false = refl

done-all : (present i : ℕ) → is_done present 0 i ≡ is_bit present i
done-all present i = ap (λ b. is_bit present i && not b) (zeros_bit i) ∙ and-true (is_bit present i)

done-more : (present rest less t n : ℕ) → t < n → is_bit present t ≡ true → is_bit less t ≡ false → ((i : ℕ) → i ≢ t → is_bit less i ≡ is_bit rest i) → first_of (is_done present less) n ≡ slice_set (first_of (is_done present rest) n) t true
done-more present rest less t n lt here cleared others =
    let bits = first_of (is_done present rest) n in
    let long : length bits ≡ n = length-first (is_done present rest) n in
    let inside : t < length bits = omega arith in
    same_lists (first_of (is_done present less) n) (slice_set bits t true) (length-first (is_done present less) n ∙ sym (length-set bits t true ∙ long))
    (λ i d below.
    let within : i < n = omega (arith, length-first (is_done present less) n) in
    get_or-first (is_done present less) n i d within
    ∙ ⊎_elim
    (λ (same : i ≡ t).
    ap (is_done present less) same
    ∙ ap₂ (λ a b. a && not b) here cleared
    ∙ sym (ap (λ k. get_or (slice_set bits t true) k d) same ∙ get_or-set_same bits t true d inside))
    (λ (apart : i ≡ t → ⊥).
    ap (λ b. is_bit present i && not b) (others i apart)
    ∙ sym (get_or-set_other bits t i true d apart ∙ get_or-first (is_done present rest) n i d within))
    (cases_eq i t))

module _ (least : ℤ) (n : ℕ) (slots : List Row) (present k : ℕ) where
  -- at first all are left
  pub done-none : (words : List ℕ) → AreMarked least n (masked (first_of (is_done present present) k) slots) words words
  done-none words = marked-rows least n (masked (first_of (is_done present present) k) slots) words
      (λ v. holds-out v (is_done present present) 0 k slots (λ i. not-both (is_bit present i)))

  -- then one less
  pub done-next : (rest less t : ℕ) (m : ℤ) (old mid new : List ℕ) → AreMarked least n (masked (first_of (is_done present rest) k) slots) old mid → AreMarked least n (Int m ∷ []) mid new → length slots ≡ k → t < k → row slots t ≡ Int m → is_bit present t ≡ true → is_bit less t ≡ false → ((i : ℕ) → i ≢ t → is_bit less i ≡ is_bit rest i) → AreMarked least n (masked (first_of (is_done present less) k) slots) old new
  done-next rest less t m old mid new before one long lt is here cleared others =
      let bits = first_of (is_done present rest) k in
      marked-then least n (masked bits slots) (masked (first_of (is_done present less) k) slots) (Int m) old mid new before one
      (λ v.
      ap (λ bs. holds (masked bs slots) v) (done-more present rest less t k lt here cleared others)
      ∙ holds-set v bits slots t (length-first (is_done present rest) k ∙ sym long) (omega arith)
      ∙ ap (λ r. holds (masked bits slots) v || is_value v r) is)

  -- and at last none
  pub done-end : (rest : ℕ) → rest ≡ 0 → first_of (is_done present rest) k ≡ first_of (is_bit present) k
  done-end rest none = ap (λ r. first_of (is_done present r) k) none ∙ agree (is_done present 0) (is_bit present) 0 k (done-all present)

-- a bit that is set lies before the end of the rows
pub within-length : (present n t : ℕ) → ((i : ℕ) → n ≤ i → i < 64 → is_bit present i ≡ false) → t < 64 → is_bit present t ≡ true → t < n
within-length present n t zeros few set =
    ⊎_elim
    (λ (lt : t < n). lt)
    (λ (le : n ≤ t). absurd (apart (sym set ∙ zeros t le few)))
    (cases_lt t n)
  where
    apart : true ≡ false → ⊥
    apart e = cc
