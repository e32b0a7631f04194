-- Numbers that are seen, one after another.
use Rattle.std.proofs.Common.{◌≡◌, ◌<◌, ◌≤◌, ◌+◌, ◌∙◌, ◌++◌, ℕ, zero, suc, Bool, true, false, cond, not, eqb, List, [], ◌∷◌, length, drop, map, get_or, pos, count_by, refl, sym, ap, ap₂, arith}
use Rattle.std.specs.Prelude.{ℤ, ◌+ℤ◌, filter, slice_set}
use Rattle.std.specs.List.{range_with_len}
use Rattle.std.proofs.Math.Seq.{set-append_seam}
use Rattle.std.proofs.lemmas.List.{drop_more, length-append, length-map, map-append, take_all}
use Rattle.std.proofs.lemmas.List.Sums.{count_by-le-length}
use Rattle.std.proofs.lemmas.List.FromFn.{get_or-map-range_with_len, length-map-range_with_len}
use Rattle.polars_arrays_flat.specs.Row.{Row, Null}
use Rattle.polars_arrays_words.specs.Bits.{bit_of, window}
use Rattle.polars_compute_slots.proofs.Sets.{count-mono, length-members, members, members-more}
use Rattle.polars_compute_slots.specs.State.{finalised, set_of}
use Rattle.arrow_unique.specs.Memory.{low_word, state_in}

map_agree : {Y : Type 0} (g h : ℕ → Y) (a n : ℕ) → ((i : ℕ) → a ≤ i → i < a + n → g i ≡ h i) → map g (range_with_len a n) ≡ map h (range_with_len a n)
map_agree g h a zero same = refl
map_agree {Y} g h a (suc n) same =
    ap₂ (λ (y : Y) (ys : List Y). y ∷ ys) (same a (omega arith) (omega arith)) (map_agree g h (a + 1) n (λ i from to. same i (omega arith) (omega arith)))

module _ (least : ℤ) (n : ℕ) (words : List ℕ) where
  -- the bits as slots
  abbrev pub slots : List Bool
  slots = window 0 n words

  pub length-slots : length slots ≡ n
  length-slots = length-map-range_with_len (λ i. bit_of words (0 + i)) 0 n

  pub slot-bit : (i : ℕ) → i < n → get_or slots i false ≡ bit_of words i
  slot-bit i lt =
      let here : 0 + i ≡ i = omega arith in
      get_or-map-range_with_len (λ k. bit_of words (0 + k)) 0 n i i false lt here ∙ ap (bit_of words) here

  -- what is seen is what the slots have
  pub set-is : (flag : ℕ) → set_of (state_in least n words flag) ≡ members least slots n
  set-is flag =
      ap (λ (vs : List (ℤ × Bool)). map {B = ℤ} (λ (v : ℤ × Bool). v.0) (filter (λ (v : ℤ × Bool). v.1) vs))
      (map_agree (λ i. (least +ℤ pos i, bit_of words i)) (λ i. (least +ℤ pos i, get_or slots i false)) 0 n
      (λ i from to. ap (λ (b : Bool). (least +ℤ pos i, b)) (sym (slot-bit i (omega arith)))))

  pub count-is : (flag : ℕ) → count_by (λ b. b) slots ≡ length (set_of (state_in least n words flag))
  count-is flag =
      sym (ap (λ (bs : List Bool). count_by (λ b. b) bs) (take_all n slots (omega (arith, length-slots))))
      ∙ sym (length-members least slots n (omega (arith, length-slots)))
      ∙ sym (ap length (set-is flag))

  -- fewer slots have no more
  pub members-le : (i : ℕ) → i ≤ n → length (members least slots i) ≤ length (members least slots n)
  members-le i le =
      omega (arith, length-members least slots i (omega (arith, length-slots)), length-members least slots n (omega (arith, length-slots)), count-mono slots i n le (omega (arith, length-slots)))

  pub count-le : (flag : ℕ) → length (set_of (state_in least n words flag)) ≤ n
  count-le flag =
      let counted = count_by-le-length (λ (b : Bool). b) slots in
      omega (arith, counted, length-slots, count-is flag)

  -- ---- one slot more

  pub length-more : (i m : ℕ) (b : Bool) → i < n → b ≡ bit_of words i → m ≡ length (members least slots i) → m + cond b 1 0 ≡ length (members least slots (i + 1))
  length-more i m b lt is e =
      ap₂ ◌+◌ e (ap (λ c. cond c 1 0) (is ∙ sym (slot-bit i lt)) ∙ sym (one (get_or slots i false)))
      ∙ sym (ap length (members-more least slots i) ∙ length-append (members least slots i) (cond (get_or slots i false) ((least +ℤ pos i) ∷ []) []))
    where
      one : (c : Bool) → length (cond c ((least +ℤ pos i) ∷ []) []) ≡ cond c 1 0
      one true = refl
      one false = refl

  put : (xs : List ℕ) (old : List ℕ) (m word : ℕ) → m ≡ length xs → m < length old → slice_set (xs ++ drop m old) m word ≡ (xs ++ word ∷ []) ++ drop (m + 1) old
  put xs old m word e lt =
      ap₂ (λ (ys : List ℕ) (k : ℕ). slice_set (xs ++ ys) k word) (drop_more old m 0 lt) e
      ∙ set-append_seam xs (get_or old m 0) (drop (m + 1) old) word
      ∙ assoc xs (drop (m + 1) old)
    where
      assoc : (ys zs : List ℕ) → ys ++ word ∷ zs ≡ (ys ++ word ∷ []) ++ zs
      assoc [] zs = refl
      assoc (y ∷ ys) zs = ap (λ rest. y ∷ rest) (assoc ys zs)

  -- the numbers written are those of one slot more
  pub listed-more : (i m word : ℕ) (b : Bool) (old out : List ℕ) → i < n → b ≡ bit_of words i → m ≡ length (members least slots i) → (b ≡ true → m < length old) → word ≡ low_word (least +ℤ pos i) → out ≡ map low_word (members least slots i) ++ drop m old → cond b (slice_set out m word) out ≡ map low_word (members least slots (i + 1)) ++ drop (m + cond b 1 0) old
  listed-more i m word true old out lt is e room word_is before =
      let seen = members-more least slots i ∙ ap (λ c. members least slots i ++ cond c ((least +ℤ pos i) ∷ []) []) (slot-bit i lt ∙ sym is) in
      ap (λ (ys : List ℕ). slice_set ys m word) before
      ∙ put (map low_word (members least slots i)) old m word (e ∙ sym (length-map (members least slots i) low_word)) (room refl)
      ∙ ap (λ (ys : List ℕ). ys ++ drop (m + 1) old) (ap (λ w. map low_word (members least slots i) ++ w ∷ []) word_is ∙ sym (ap (map low_word) seen ∙ map-append low_word (members least slots i) ((least +ℤ pos i) ∷ [])))
  listed-more i m word false old out lt is e room word_is before =
      let seen = members-more least slots i ∙ ap (λ c. members least slots i ++ cond c ((least +ℤ pos i) ∷ []) []) (slot-bit i lt ∙ sym is) in
      let same : m + 0 ≡ m = omega arith in
      before ∙ ap₂ (λ (vs : List ℤ) (k : ℕ). map low_word vs ++ drop k old) (sym (seen ∙ append-none (members least slots i))) (sym same)
    where
      append-none : (xs : List ℤ) → xs ++ [] ≡ xs
      append-none [] = refl
      append-none (x ∷ xs) = ap (λ rest. x ∷ rest) (append-none xs)

-- ---- rows of a state

pub length-finalised : (least : ℤ) (n count : ℕ) (words : List ℕ) (flag : ℕ) (put : ℤ → Row) (byte : ℕ) → count ≡ length (set_of (state_in least n words flag)) → byte ≡ cond (not (eqb flag 0)) 1 0 → count + byte ≡ length (finalised put (state_in least n words flag))
length-finalised least n count words flag put byte is byte_is =
    ap₂ ◌+◌ (is ∙ sym (length-map (set_of (state_in least n words flag)) put)) (byte_is ∙ sym (one (not (eqb flag 0))))
    ∙ sym (length-append (map put (set_of (state_in least n words flag))) (cond (not (eqb flag 0)) (Null ∷ []) []))
  where
    one : (c : Bool) → length (cond c (Null ∷ []) []) ≡ cond c 1 0
    one true = refl
    one false = refl
