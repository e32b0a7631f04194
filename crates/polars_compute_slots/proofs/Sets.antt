-- The set that slots are, as it grows slot by slot.
use Rattle.std.proofs.Common.{◌≡◌, ◌<◌, ◌≤◌, ◌+◌, ◌-◌, ◌∙◌, ◌&&◌, ◌++◌, ℕ, zero, suc, Bool, true, false, cond, eqb, List, [], ◌∷◌, length, take, map, get_or, pos, count_by, replicate, refl, sym, ap, ap₂, subst, arith}
use Rattle.std.specs.Prelude.{ℤ, ◌+ℤ◌, ◌≤ℤ◌, ◌<ℤ◌, All, Contains, filter}
use Rattle.std.specs.List.{range_with_len}
use Rattle.std.proofs.Math.Numerals.{add-one}
use Rattle.std.proofs.lemmas.Bool.Decides.{nat_tests}
use Rattle.std.proofs.lemmas.Int.{ints}
use Rattle.std.proofs.lemmas.List.{length-append, length-map, map-append}
use Rattle.std.proofs.lemmas.List.Elements.{All-push, Contains-append_left, Contains-push}
use Rattle.std.proofs.lemmas.List.FromFn.{filter_of_map_range_with_len_more, get_or-map-range_with_len, length-map-range_with_len}
use Rattle.polars_arrays_flat.specs.Row.{Row, Null, Int}
use Rattle.polars_arrays_flat.specs.StoredRows.{masked, number_slots}
use Rattle.polars_compute_slots.specs.Slots.{slot_state}
use Rattle.polars_compute_slots.specs.State.{IsLeastFrom, State, all_seen, finalised, numbers_from, range_of, set_of}
use Rattle.polars_compute_slots.proofs.Fullness.{count-le, is-full, not-full}
use Rattle.polars_compute_slots.proofs.Marked.{map_range}
use Rattle.polars_compute_slots.proofs.WordBits.{count-more}
use mir.Val.{bool_byte}

module _ (least : ℤ) (slots : List Bool) where
  abbrev value_at : ℕ → ℤ × Bool
  value_at i = (least +ℤ pos i, get_or slots i false)

  abbrev pub members : ℕ → List ℤ
  members n = set_of (slot_state least n slots)

  one : (b : Bool) (v : ℤ × Bool) → map {B = ℤ} (λ (w : ℤ × Bool). w.0) (cond b (v ∷ []) []) ≡ cond b (v.0 ∷ []) []
  one true v = refl
  one false v = refl

  -- a slot more
  pub members-more : (n : ℕ) → members (n + 1) ≡ members n ++ cond (get_or slots n false) ((least +ℤ pos n) ∷ []) []
  members-more n =
      ap (λ (vs : List (ℤ × Bool)). map {B = ℤ} (λ (v : ℤ × Bool). v.0) vs) (filter_of_map_range_with_len_more (λ (v : ℤ × Bool). v.1) value_at 0 n n (omega arith))
      ∙ map-append (λ (v : ℤ × Bool). v.0) (filter (λ (v : ℤ × Bool). v.1) (map value_at (range_with_len 0 n))) (cond (get_or slots n false) (value_at n ∷ []) [])
      ∙ ap (λ (vs : List ℤ). members n ++ vs) (one (get_or slots n false) (value_at n))

  length-one : {A : Type 0} (b : Bool) (x : A) → length (cond b (x ∷ []) []) ≡ cond b 1 0
  length-one true x = refl
  length-one false x = refl

  -- as many as slots are set
  pub length-members : (n : ℕ) → n ≤ length slots → length (members n) ≡ count_by (λ b. b) (take n slots)
  length-members zero h = refl
  length-members (suc n) h =
      let before = length-members n (omega arith) in
      let P : ℕ → Type 0 = λ k. length (members k) ≡ count_by (λ b. b) (take k slots) in
      subst P (add-one n)
      (ap length (members-more n)
      ∙ length-append (members n) (cond (get_or slots n false) ((least +ℤ pos n) ∷ []) [])
      ∙ ap₂ (λ a b. a + b) before (length-one (get_or slots n false) (least +ℤ pos n))
      ∙ sym (count-more slots n (omega arith)))

  -- ---- members

  push-all : (P : ℤ → Type 0) (b : Bool) (xs : List ℤ) (x : ℤ) → All P xs → (b ≡ true → P x) → All P (xs ++ cond b (x ∷ []) [])
  push-all P true xs x all one_more = All-push P xs x all (one_more refl)
  push-all P false xs x all one_more = subst (All P) (sym (append-none xs)) all
    where
      append-none : (ys : List ℤ) → ys ++ [] ≡ ys
      append-none [] = refl
      append-none (y ∷ ys) = ap (λ rest. y ∷ rest) (append-none ys)

  pub all-more : (P : ℤ → Type 0) (n : ℕ) → All P (members n) → (get_or slots n false ≡ true → P (least +ℤ pos n)) → All P (members (n + 1))
  all-more P n all one_more = subst (All P) (sym (members-more n)) (push-all P (get_or slots n false) (members n) (least +ℤ pos n) all one_more)

  contains-last : (b : Bool) (xs : List ℤ) (x : ℤ) → b ≡ true → Contains (xs ++ cond b (x ∷ []) []) x
  contains-last true xs x e = Contains-push xs x
  contains-last false xs x e = cc

  -- the value of a slot that is set is a member once it was passed
  pub contains-value : (i k : ℕ) → get_or slots i false ≡ true → Contains (members (i + 1 + k)) (least +ℤ pos i)
  contains-value i zero e =
      let here : i + 1 + 0 ≡ i + 1 = omega arith in
      rw here (subst (λ (vs : List ℤ). Contains vs (least +ℤ pos i)) (sym (members-more i)) (contains-last (get_or slots i false) (members i) (least +ℤ pos i) e))
  contains-value i (suc k) e =
      let next : i + 1 + suc k ≡ i + 1 + k + 1 = omega arith in
      rw next (subst (λ (vs : List ℤ). Contains vs (least +ℤ pos i)) (sym (members-more (i + 1 + k)))
      (Contains-append_left (members (i + 1 + k)) (cond (get_or slots (i + 1 + k) false) ((least +ℤ pos (i + 1 + k)) ∷ []) []) (least +ℤ pos i) (contains-value i k e)))

  -- members after slot i are no less than its value
  pub least-value : (bound : ℤ) (i k : ℕ) → All (λ v. v <ℤ bound) (members i) → All (λ v. v <ℤ (least +ℤ pos i) → v <ℤ bound) (members (i + k))
  least-value bound i zero all =
      let here : i + 0 ≡ i = omega arith in
      rw here (λ j d lt less. all j d lt)
  least-value bound i (suc k) all =
      let next : i + suc k ≡ i + k + 1 = omega arith in
      rw next (all-more (λ v. v <ℤ (least +ℤ pos i) → v <ℤ bound) (i + k) (least-value bound i k all) (λ set less. absurd (omega (arith, ints))))

  -- ---- results of slots

  pub seen-all : (n count : ℕ) (last : Bool) → length slots ≡ n + 1 → count ≡ count_by (λ b. b) (take n slots) → last ≡ get_or slots n false → count ≡ n → last ≡ all_seen (slot_state least n slots)
  seen-all n count last size is is_last e =
      is_last ∙ sym (ap (λ b. b && get_or slots n false) (is-full least slots n count size is (omega arith)))

  pub not-all : (n count : ℕ) → length slots ≡ n + 1 → count ≡ count_by (λ b. b) (take n slots) → (count ≡ n → ⊥) → eqb count n ≡ all_seen (slot_state least n slots)
  not-all n count size is ne =
      let most = count-le slots n (omega arith) in
      unequal count n ne ∙ sym (ap (λ b. b && get_or slots n false) (not-full least slots n count size is (omega arith)))
    where
      unequal : (a b : ℕ) → (a ≡ b → ⊥) → eqb a b ≡ false
      unequal a b h = grind (arith, nat_tests)

  -- the range of slots
  pub range-slots : (n : ℕ) → range_of (slot_state least n slots) ≡ numbers_from least n
  range-slots n = map_range (λ (v : ℤ × Bool). v.0) value_at (λ i. least +ℤ pos i) 0 n (λ i from to. refl)

  -- ---- the members as stored numbers

  -- a number more, where it is in the set
  pub listed-more : {A : Type 0} (value : A → ℤ) (xs : List A) (n : ℕ) (x : A) (b : Bool) → b ≡ get_or slots n false → value x ≡ least +ℤ pos n → number_slots value xs ≡ map Int (members n) → number_slots value (xs ++ cond b (x ∷ []) []) ≡ map Int (members (n + 1))
  listed-more value xs n x b set is before =
      map-append (λ y. Int (value y)) xs (cond b (x ∷ []) [])
      ∙ ap₂ (λ (rs ts : List Row). rs ++ ts) before (one-listed value x b (least +ℤ pos n) is)
      ∙ ap (λ c. map Int (members n) ++ map Int (cond c ((least +ℤ pos n) ∷ []) [])) set
      ∙ sym (map-append Int (members n) (cond (get_or slots n false) ((least +ℤ pos n) ∷ []) []))
      ∙ ap (map Int) (sym (members-more n))
    where
      one-listed : {A : Type 0} (value : A → ℤ) (x : A) (b : Bool) (v : ℤ) → value x ≡ v → map (λ y. Int (value y)) (cond b (x ∷ []) []) ≡ map Int (cond b (v ∷ []) [])
      one-listed value x true v is = ap (λ (w : ℤ). Int w ∷ []) is
      one-listed value x false v is = refl

  pub length-listed : {A : Type 0} (value : A → ℤ) (xs : List A) (n : ℕ) → n ≤ length slots → number_slots value xs ≡ map Int (members n) → length xs ≡ count_by (λ b. b) (take n slots)
  length-listed value xs n h e =
      sym (length-map xs (λ y. Int (value y))) ∙ ap (λ (rs : List Row). length rs) e ∙ length-map (members n) Int ∙ length-members n h

  -- the value of slot i is the least from a bound on, where it is not below it and all before it are
  pub least-found : (bound : ℤ) (i n : ℕ) (v : ℤ) → i < n → get_or slots i false ≡ true → v ≡ least +ℤ pos i → bound ≤ℤ v → All (λ o. o <ℤ bound) (members i) → IsLeastFrom bound (members n) v
  least-found bound i n v lt set is from before =
      let end : i + 1 + (n - (i + 1)) ≡ n = omega arith in
      let rest : i + (n - i) ≡ n = omega arith in
      record {
        is_in = subst (Contains (members n)) (sym is) (subst (λ (k : ℕ). Contains (members k) (least +ℤ pos i)) end (contains-value i (n - (i + 1)) set));
        from = from;
        least = subst (λ (w : ℤ). All (λ o. o <ℤ w → o <ℤ bound) (members n)) (sym is) (subst (λ (k : ℕ). All (λ o. o <ℤ (least +ℤ pos i) → o <ℤ bound) (members k)) rest (least-value bound i (n - i) before));
      }

-- fewer slots have no more that are set
count-mono-by : (slots : List Bool) (i k : ℕ) → i + k ≤ length slots → count_by (λ b. b) (take i slots) ≤ count_by (λ b. b) (take (i + k) slots)
count-mono-by slots i zero h = let here : i + 0 ≡ i = omega arith in rw here (omega arith)
count-mono-by slots i (suc k) h =
    let next : i + suc k ≡ i + k + 1 = omega arith in
    rw next (omega (arith, count-mono-by slots i k (omega arith), count-more slots (i + k) (omega arith)))

pub count-mono : (slots : List Bool) (i n : ℕ) → i ≤ n → n ≤ length slots → count_by (λ b. b) (take i slots) ≤ count_by (λ b. b) (take n slots)
count-mono slots i n le h =
    let rest : i + (n - i) ≡ n = omega arith in
    subst (λ (k : ℕ). count_by (λ b. b) (take i slots) ≤ count_by (λ b. b) (take k slots)) rest (count-mono-by slots i (n - i) (omega arith))

-- ---- finalised states

append-none : {A : Type 0} (xs : List A) → xs ++ [] ≡ xs
append-none [] = refl
append-none (x ∷ xs) = ap (λ rest. x ∷ rest) (append-none xs)

pub finalised-present : (put : ℤ → Row) (s : State) → s.has_null ≡ false → map put (set_of s) ≡ finalised put s
finalised-present put s none = sym (ap (λ b. map put (set_of s) ++ cond b (Null ∷ []) []) none ∙ append-none (map put (set_of s)))

pub finalised-null : (put : ℤ → Row) (s : State) → s.has_null ≡ true → map put (set_of s) ++ Null ∷ [] ≡ finalised put s
finalised-null put s some = sym (ap (λ b. map put (set_of s) ++ cond b (Null ∷ []) []) some)

length-cond : (b : Bool) → length (cond b (Null ∷ []) []) ≡ bool_byte b
length-cond true = refl
length-cond false = refl

pub byte-le : (m : ℕ) (b : Bool) → m ≡ bool_byte b → m ≤ 1
byte-le m true e = omega arith
byte-le m false e = omega arith

-- how many rows there are
pub count-finalised : (least : ℤ) (put : ℤ → Row) (slots : List Bool) (n count m : ℕ) (last : Bool) → length slots ≡ n + 1 → count ≡ count_by (λ b. b) (take n slots) → get_or slots n false ≡ last → m ≡ bool_byte last → count + m ≡ length (finalised put (slot_state least n slots))
count-finalised least put slots n count m last size is null byte =
    let here : n ≤ length slots = omega arith in
    ap₂ (λ a b. a + b) (is ∙ sym (length-map (members least slots n) put ∙ length-members least slots n here)) (byte ∙ sym (ap (λ b. length (cond b (Null ∷ []) [])) null ∙ length-cond last))
    ∙ sym (length-append (map put (members least slots n)) (cond (get_or slots n false) (Null ∷ []) []))

-- ---- a last row that is null

pub masked-last : {A : Type 0} (value : A → ℤ) (xs : List A) (x : A) → masked (replicate (length xs) true ++ false ∷ []) (number_slots value (xs ++ x ∷ [])) ≡ number_slots value xs ++ Null ∷ []
masked-last value [] x = refl
masked-last value (y ∷ xs) x = ap (λ rest. Int (value y) ∷ rest) (masked-last value xs x)

-- ---- ranges that are the same

pub same-numbers : (a b : ℤ) (m n : ℕ) → m ≡ n → (n ≡ 0 → ⊥) → numbers_from a m ≡ numbers_from b n → a ≡ b
same-numbers a b m n same some e =
    let first = get_or-map-range_with_len (λ i. a +ℤ pos i) 0 m 0 0 (pos 0) (omega arith) (omega arith) in
    let other = get_or-map-range_with_len (λ i. b +ℤ pos i) 0 n 0 0 (pos 0) (omega arith) (omega arith) in
    let both : a +ℤ pos 0 ≡ b +ℤ pos 0 = sym first ∙ ap (λ (vs : List ℤ). get_or vs 0 (pos 0)) e ∙ other in
    omega (arith, ints)

pub same-count : (a b : ℤ) (m n : ℕ) → numbers_from a m ≡ numbers_from b n → m ≡ n
same-count a b m n e = sym (length-map-range_with_len (λ i. a +ℤ pos i) 0 m) ∙ ap (λ (vs : List ℤ). length vs) e ∙ length-map-range_with_len (λ i. b +ℤ pos i) 0 n

pub ranges-same : (a b : ℤ) (m n : ℕ) → m ≡ n → a ≡ b → numbers_from a m ≡ numbers_from b n
ranges-same a b m n same e = ap₂ numbers_from e same

pub no-numbers : (a b : ℤ) (m n : ℕ) → m ≡ n → m ≡ 0 → numbers_from a m ≡ numbers_from b n
no-numbers a b m n same none = ap (numbers_from a) none ∙ ap (numbers_from b) (sym none ∙ same)
