-- What a state is read as, value by value.
use Rattle.std.proofs.Common.{◌≡◌, ◌≤◌, ◌+◌, ◌-◌, ◌∙◌, ◌&&◌, ◌||◌, ◌++◌, ℕ, zero, suc, Bool, true, false, not, cond, List, [], ◌∷◌, length, map, get_or, pos, refl, sym, ap, ap₂, subst, arith}
use Rattle.std.specs.Prelude.{ℤ, ◌+ℤ◌, filter}
use Rattle.std.specs.List.{list_any, range_with_len}
use Rattle.std.proofs.Math.Numerals.{add-one}
use Rattle.std.proofs.lemmas.List.{length-append, length-map, map-append}
use Rattle.std.proofs.lemmas.List.Elements.{filter-append}
use Rattle.std.proofs.lemmas.List.Folds.{list_any-append}
use Rattle.std.proofs.lemmas.List.FromFn.{filter_of_map_range_with_len_more, length-map-range_with_len, map-range_with_len_more}
use Rattle.polars_arrays_flat.specs.Row.{Row, Int}
use Rattle.polars_arrays_flat.specs.StoredRows.{number_slots}
use Rattle.polars_compute_slots.specs.Slots.{slot_state}
use Rattle.polars_compute_slots.specs.State.{State, read_by, set_of}

pub or-false : (b : Bool) → (b || false) ≡ b
or-false true = refl
or-false false = refl

pub one-most : (b : Bool) → cond b 1 0 ≤ 1
one-most true = omega arith
one-most false = omega arith

-- a state of n slots has n values
pub length-slot_state : (least : ℤ) (n : ℕ) (slots : List Bool) → length (slot_state least n slots).values ≡ n
length-slot_state least n slots = length-map-range_with_len (λ (i : ℕ). (least +ℤ pos i, get_or slots i false)) 0 n

none-dropped : (null : ℤ → Bool) → ((v : ℤ) → null v ≡ false) → (vs : List (ℤ × Bool)) → filter (λ (v : ℤ × Bool). not (null v.0)) vs ≡ vs
none-dropped null never [] = refl
none-dropped null never ((v, seen) ∷ vs) = rw (never v) (ap (λ (ws : List (ℤ × Bool)). (v, seen) ∷ ws) (none-dropped null never vs))

none-raised : (null : ℤ → Bool) → ((v : ℤ) → null v ≡ false) → (vs : List (ℤ × Bool)) → list_any (λ (v : ℤ × Bool). v.1 && null v.0) vs ≡ false
none-raised null never [] = refl
none-raised null never ((v, true) ∷ vs) = rw (never v) (none-raised null never vs)
none-raised null never ((v, false) ∷ vs) = none-raised null never vs

-- where no value stands for null, a state is read as it is
pub read-whole : (null : ℤ → Bool) → ((v : ℤ) → null v ≡ false) → (s : State) → read_by null s ≡ s
read-whole null never s =
    ap₂ (λ (vs : List (ℤ × Bool)) (b : Bool). record { values = vs; has_null = s.has_null || b }) (none-dropped null never s.values) (none-raised null never s.values)
    ∙ ap (λ (b : Bool). record { values = s.values; has_null = b }) (or-false s.has_null)

module _ (least : ℤ) (slots : List Bool) (null : ℤ → Bool) where
  abbrev value_at : ℕ → ℤ × Bool
  value_at i = (least +ℤ pos i, get_or slots i false)

  -- the first n values that do not stand for null
  abbrev pub kept_values : ℕ → List (ℤ × Bool)
  kept_values n = (read_by null (slot_state least n slots)).values

  pub kept-more : (n : ℕ) → kept_values (n + 1) ≡ kept_values n ++ cond (not (null (least +ℤ pos n))) (value_at n ∷ []) []
  kept-more n = filter_of_map_range_with_len_more (λ (v : ℤ × Bool). not (null v.0)) value_at 0 n n (omega arith)

  length-kept : (b : Bool) (v : ℤ × Bool) → length (cond b (v ∷ []) []) ≡ cond b 1 0
  length-kept true v = refl
  length-kept false v = refl

  pub values-more : (n : ℕ) → length (kept_values (n + 1)) ≡ length (kept_values n) + cond (not (null (least +ℤ pos n))) 1 0
  values-more n =
      ap (λ (vs : List (ℤ × Bool)). length vs) (kept-more n)
      ∙ length-append (kept_values n) (cond (not (null (least +ℤ pos n))) (value_at n ∷ []) [])
      ∙ ap (λ (k : ℕ). length (kept_values n) + k) (length-kept (not (null (least +ℤ pos n))) (value_at n))

  -- those of them that were seen
  abbrev pub read_members : ℕ → List ℤ
  read_members n = set_of (read_by null (slot_state least n slots))

  one : (b : Bool) (v : ℤ) (seen : Bool) → length (map {B = ℤ} (λ (w : ℤ × Bool). w.0) (filter (λ (w : ℤ × Bool). w.1) (cond b ((v, seen) ∷ []) []))) ≡ cond (seen && b) 1 0
  one true v true = refl
  one true v false = refl
  one false v true = refl
  one false v false = refl

  pub members-more : (n : ℕ) → length (read_members (n + 1)) ≡ length (read_members n) + cond (get_or slots n false && not (null (least +ℤ pos n))) 1 0
  members-more n =
      let last = cond (not (null (least +ℤ pos n))) (value_at n ∷ []) [] in
      ap (λ (vs : List (ℤ × Bool)). length (map {B = ℤ} (λ (v : ℤ × Bool). v.0) (filter (λ (v : ℤ × Bool). v.1) vs))) (kept-more n)
      ∙ ap (λ (vs : List (ℤ × Bool)). length (map {B = ℤ} (λ (v : ℤ × Bool). v.0) vs)) (filter-append (λ (v : ℤ × Bool). v.1) (kept_values n) last)
      ∙ ap (λ (vs : List ℤ). length vs) (map-append (λ (v : ℤ × Bool). v.0) (filter (λ (v : ℤ × Bool). v.1) (kept_values n)) (filter (λ (v : ℤ × Bool). v.1) last))
      ∙ length-append (read_members n) (map {B = ℤ} (λ (v : ℤ × Bool). v.0) (filter (λ (v : ℤ × Bool). v.1) last))
      ∙ ap (λ (k : ℕ). length (read_members n) + k) (one (not (null (least +ℤ pos n))) (least +ℤ pos n) (get_or slots n false))

  one-listed : (b : Bool) (v : ℤ) (seen : Bool) → map {B = ℤ} (λ (w : ℤ × Bool). w.0) (filter (λ (w : ℤ × Bool). w.1) (cond b ((v, seen) ∷ []) [])) ≡ cond (seen && b) (v ∷ []) []
  one-listed true v true = refl
  one-listed true v false = refl
  one-listed false v true = refl
  one-listed false v false = refl

  pub members-next : (n : ℕ) → read_members (n + 1) ≡ read_members n ++ cond (get_or slots n false && not (null (least +ℤ pos n))) ((least +ℤ pos n) ∷ []) []
  members-next n =
      let last = cond (not (null (least +ℤ pos n))) (value_at n ∷ []) [] in
      ap (λ (vs : List (ℤ × Bool)). map {B = ℤ} (λ (v : ℤ × Bool). v.0) (filter (λ (v : ℤ × Bool). v.1) vs)) (kept-more n)
      ∙ ap (λ (vs : List (ℤ × Bool)). map {B = ℤ} (λ (v : ℤ × Bool). v.0) vs) (filter-append (λ (v : ℤ × Bool). v.1) (kept_values n) last)
      ∙ map-append (λ (v : ℤ × Bool). v.0) (filter (λ (v : ℤ × Bool). v.1) (kept_values n)) (filter (λ (v : ℤ × Bool). v.1) last)
      ∙ ap (λ (vs : List ℤ). read_members n ++ vs) (one-listed (not (null (least +ℤ pos n))) (least +ℤ pos n) (get_or slots n false))

  -- more values have no fewer that were seen
  members-mono-by : (i k : ℕ) → length (read_members i) ≤ length (read_members (i + k))
  members-mono-by i zero = let here : i + 0 ≡ i = omega arith in rw here (omega arith)
  members-mono-by i (suc k) =
      let next : i + suc k ≡ i + k + 1 = omega arith in
      rw next (omega (arith, members-mono-by i k, members-more (i + k)))

  pub members-mono : (i n : ℕ) → i ≤ n → length (read_members i) ≤ length (read_members n)
  members-mono i n le =
      let rest : i + (n - i) ≡ n = omega arith in
      subst (λ (k : ℕ). length (read_members i) ≤ length (read_members k)) rest (members-mono-by i (n - i))

  -- there are no more members than values
  pub members-few : (n : ℕ) → length (read_members n) ≤ n
  members-few zero = omega arith
  members-few (suc n) =
      let more : length (read_members (n + 1)) ≤ n + 1 = omega (arith, members-few n, members-more n, one-most (get_or slots n false && not (null (least +ℤ pos n)))) in
      subst (λ (k : ℕ). length (read_members k) ≤ k) (add-one n) more

  -- ---- the members as stored numbers

  one-stored : {A : Type 0} (value : A → ℤ) (x : A) (b : Bool) (v : ℤ) → value x ≡ v → map (λ y. Int (value y)) (cond b (x ∷ []) []) ≡ map Int (cond b (v ∷ []) [])
  one-stored value x true v is = ap (λ (w : ℤ). Int w ∷ []) is
  one-stored value x false v is = refl

  pub stored-more : {A : Type 0} (value : A → ℤ) (xs : List A) (n : ℕ) (x : A) (b : Bool) → b ≡ (get_or slots n false && not (null (least +ℤ pos n))) → value x ≡ least +ℤ pos n → number_slots value xs ≡ map Int (read_members n) → number_slots value (xs ++ cond b (x ∷ []) []) ≡ map Int (read_members (n + 1))
  stored-more value xs n x b set is before =
      map-append (λ y. Int (value y)) xs (cond b (x ∷ []) [])
      ∙ ap₂ (λ (rs ts : List Row). rs ++ ts) before (one-stored value x b (least +ℤ pos n) is)
      ∙ ap (λ c. map Int (read_members n) ++ map Int (cond c ((least +ℤ pos n) ∷ []) [])) set
      ∙ sym (map-append Int (read_members n) (cond (get_or slots n false && not (null (least +ℤ pos n))) ((least +ℤ pos n) ∷ []) []))
      ∙ ap (map Int) (sym (members-next n))

  pub length-stored : {A : Type 0} (value : A → ℤ) (xs : List A) (n : ℕ) → number_slots value xs ≡ map Int (read_members n) → length xs ≡ length (read_members n)
  length-stored value xs n e =
      sym (length-map xs (λ y. Int (value y))) ∙ ap (λ (rs : List Row). length rs) e ∙ length-map (read_members n) Int

  -- whether one that stands for null was seen
  abbrev pub seen_null : ℕ → Bool
  seen_null n = list_any (λ (v : ℤ × Bool). v.1 && null v.0) (map value_at (range_with_len 0 n))

  pub nulls-more : (n : ℕ) → seen_null (n + 1) ≡ (seen_null n || (get_or slots n false && null (least +ℤ pos n)))
  nulls-more n =
      ap (list_any (λ (v : ℤ × Bool). v.1 && null v.0)) (map-range_with_len_more value_at 0 n n (omega arith))
      ∙ list_any-append (λ (v : ℤ × Bool). v.1 && null v.0) (map value_at (range_with_len 0 n)) (value_at n ∷ [])
      ∙ ap (λ b. seen_null n || b) (or-false (get_or slots n false && null (least +ℤ pos n)))

  -- ---- counts, a value further

  pub added-values : (old new n : ℕ) (b : Bool) → b ≡ null (least +ℤ pos n) → new ≡ old + cond (not b) 1 0 → old ≡ length (kept_values n) → new ≡ length (kept_values (n + 1))
  added-values old new n b is grew before =
      grew ∙ ap₂ (λ (k : ℕ) (c : Bool). k + cond (not c) 1 0) before is ∙ sym (values-more n)

  pub added-seen : (old new n : ℕ) (b seen : Bool) → b ≡ null (least +ℤ pos n) → seen ≡ get_or slots n false → new ≡ old + cond (seen && not b) 1 0 → old ≡ length (read_members n) → new ≡ length (read_members (n + 1))
  added-seen old new n b seen is set grew before =
      grew
      ∙ ap (λ (k : ℕ). k + cond (seen && not b) 1 0) before
      ∙ ap₂ (λ (s c : Bool). length (read_members n) + cond (s && not c) 1 0) set is
      ∙ sym (members-more n)

  or-either : (a b c : Bool) → ((a || b) || c) ≡ (a || (b || c))
  or-either true b c = refl
  or-either false b c = refl

  pub added-nulls : (last old new : Bool) (n : ℕ) (b seen : Bool) → b ≡ null (least +ℤ pos n) → seen ≡ get_or slots n false → new ≡ (old || (seen && b)) → old ≡ (last || seen_null n) → new ≡ (last || seen_null (n + 1))
  added-nulls last old new n b seen is set grew before =
      grew
      ∙ ap (λ (o : Bool). o || (seen && b)) before
      ∙ ap₂ (λ (s c : Bool). (last || seen_null n) || (s && c)) set is
      ∙ or-either last (seen_null n) (get_or slots n false && null (least +ℤ pos n))
      ∙ ap (λ (o : Bool). last || o) (sym (nulls-more n))
