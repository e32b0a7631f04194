-- Lists that are written an element at a time.
use Rattle.std.proofs.Common.{◌≡◌, ◌<◌, ◌≤◌, ◌+◌, ℕ, Bool, true, false, cond, List, [], ◌∷◌, ◌++◌, length, get_or, map, take, arith, ap, sym, ◌∙◌, refl}
use Rattle.std.proofs.lemmas.List.{append-nil, append_assoc, flat_map_more, length-append, length-map, length-take-le, map_more, map-append, map-id, take_more}
use Rattle.std.proofs.lemmas.List.Concat.{flat_map-append}
use Rattle.std.proofs.lemmas.List.FromFn.{filter_of_map_range_with_len_more, length-range_with_len}
use Rattle.std.proofs.lemmas.List.Sums.{count_by-le-length, length-filter}
use Rattle.std.specs.List.{count_by, filter, flat_map, range_with_len}
use Rattle.diff_words.specs.Lists.{gap, listed}

-- texts one after another, one more
pub texts_more : {X : Type 0} (f : X → List ℕ) (old : List ℕ) (xs : List X) (i : ℕ) (d : X) → i < length xs
    → (old ++ flat_map f (take i xs)) ++ f (get_or xs i d) ≡ old ++ flat_map f (take (i + 1) xs)
texts_more f old xs i d within =
    flat_map_more f old (take i xs) (get_or xs i d) ∙ ap (λ l. old ++ flat_map f l) (sym (take_more xs i d within))

-- an element more at the end of a list
pub listed_push : (separator : List ℕ) (xs : List (List ℕ)) (x : List ℕ) (n : ℕ) → n ≡ length xs
    → (listed separator xs ++ gap separator n) ++ x ≡ listed separator (xs ++ x ∷ [])
unfolding listed
listed_push separator [] x n e = rw e (sym (append-nil x))
listed_push separator (y ∷ ys) x n e =
    let end : flat_map (λ t. separator ++ t) (ys ++ x ∷ []) ≡ flat_map (λ t. separator ++ t) ys ++ ((separator ++ x) ++ []) = flat_map-append (λ t. separator ++ t) ys (x ∷ []) in
    rw (e, end, append-nil (separator ++ x), append_assoc (y ++ flat_map (λ t. separator ++ t) ys) separator x, append_assoc y (flat_map (λ t. separator ++ t) ys) (separator ++ x)) refl

-- an element more, after what was written before the list
pub listed_more : (separator old : List ℕ) (xs : List (List ℕ)) (x : List ℕ) (n : ℕ) → n ≡ length xs
    → ((old ++ listed separator xs) ++ gap separator n) ++ x ≡ old ++ listed separator (xs ++ x ∷ [])
listed_more separator old xs x n e =
    ap (λ l. l ++ x) (append_assoc old (listed separator xs) (gap separator n))
    ∙ (append_assoc old (listed separator xs ++ gap separator n) x ∙ ap (λ l. old ++ l) (listed_push separator xs x n e))

-- the same where the elements are texts of the elements of another list
pub listed_next : {X : Type 0} (separator : List ℕ) (f : X → List ℕ) (old : List ℕ) (xs : List X) (i : ℕ) (d : X) → i < length xs
    → ((old ++ listed separator (map f (take i xs))) ++ gap separator i) ++ f (get_or xs i d) ≡ old ++ listed separator (map f (take (i + 1) xs))
listed_next separator f old xs i d within =
    listed_more separator old (map f (take i xs)) (f (get_or xs i d)) i (sym (length-map (take i xs) f ∙ length-take-le i xs (omega (arith, within))))
    ∙ ap (λ l. old ++ listed separator l) (sym (map_more f xs i d within))

-- the same where an element is written or left out
pub listed_choice : {X : Type 0} (separator : List ℕ) (f : X → List ℕ) (old : List ℕ) (xs : List X) (x : X) (n : ℕ) (kept : Bool) → n ≡ length xs
    → (old ++ listed separator (map f xs)) ++ cond kept (gap separator n ++ f x) [] ≡ old ++ listed separator (map f (xs ++ cond kept (x ∷ []) []))
listed_choice separator f old xs x n true e =
    sym (append_assoc (old ++ listed separator (map f xs)) (gap separator n) (f x))
    ∙ (listed_more separator old (map f xs) (f x) n (e ∙ sym (length-map xs f)) ∙ ap (λ l. old ++ listed separator l) (sym (map-append f xs (x ∷ []))))
listed_choice separator f old xs x n false e =
    append-nil (old ++ listed separator (map f xs)) ∙ ap (λ l. old ++ listed separator (map f l)) (sym (append-nil xs))

-- the numbers below n that pass a test, one number more
pub kept_more : (p : ℕ → Bool) (n : ℕ) → filter p (range_with_len 0 (n + 1)) ≡ filter p (range_with_len 0 n) ++ cond (p n) (n ∷ []) []
kept_more p n =
    ap (filter p) (sym (map-id (range_with_len 0 (n + 1))))
    ∙ (filter_of_map_range_with_len_more p (λ (k : ℕ). k) 0 n n (omega arith) ∙ ap (λ l. filter p l ++ cond (p n) (n ∷ []) []) (map-id (range_with_len 0 n)))

-- how many they are
pub kept_count : (p : ℕ → Bool) (n : ℕ) → length (filter p (range_with_len 0 (n + 1))) ≡ length (filter p (range_with_len 0 n)) + cond (p n) 1 0
kept_count p n =
    ap length (kept_more p n) ∙ (length-append (filter p (range_with_len 0 n)) (cond (p n) (n ∷ []) []) ∙ ap (λ k. length (filter p (range_with_len 0 n)) + k) (one (p n)))
  where
    one : (kept : Bool) → length (cond kept (n ∷ []) []) ≡ cond kept 1 0
    one true = refl
    one false = refl

pub kept_within : (p : ℕ → Bool) (n : ℕ) → length (filter p (range_with_len 0 n)) ≤ n
kept_within p n =
    let count : length (filter p (range_with_len 0 n)) ≡ count_by p (range_with_len 0 n) = length-filter p (range_with_len 0 n) in
    let most : count_by p (range_with_len 0 n) ≤ length (range_with_len 0 n) = count_by-le-length p (range_with_len 0 n) in
    omega (arith, count, most, length-range_with_len 0 n)

-- the numbers below n that pass a test are listed by their texts, one number more
pub listed_kept : (separator : List ℕ) (f : ℕ → List ℕ) (p : ℕ → Bool) (old : List ℕ) (n m : ℕ) → m ≡ length (filter p (range_with_len 0 n))
    → (old ++ listed separator (map f (filter p (range_with_len 0 n)))) ++ cond (p n) (gap separator m ++ f n) [] ≡ old ++ listed separator (map f (filter p (range_with_len 0 (n + 1))))
listed_kept separator f p old n m e =
    listed_choice separator f old (filter p (range_with_len 0 n)) n m (p n) e ∙ ap (λ l. old ++ listed separator (map f l)) (sym (kept_more p n))

-- a loop that writes texts one after another, a step on
pub texts_written : {X : Type 0} (f : X → List ℕ) (old before after : List ℕ) (xs : List X) (i : ℕ) (d x : X) → i < length xs
    → before ≡ old ++ flat_map f (take i xs) → after ≡ before ++ f x → x ≡ get_or xs i d → after ≡ old ++ flat_map f (take (i + 1) xs)
texts_written f old before after xs i d x within b a e =
    a ∙ (ap (λ y. before ++ f y) e ∙ (ap (λ l. l ++ f (get_or xs i d)) b ∙ texts_more f old xs i d within))

-- a loop that writes the elements of a list, a step on
pub elements_written : {X : Type 0} (separator : List ℕ) (f : X → List ℕ) (old before gapped after : List ℕ) (xs : List X) (i : ℕ) (d x : X) → i < length xs
    → before ≡ old ++ listed separator (map f (take i xs)) → gapped ≡ before ++ gap separator i → after ≡ gapped ++ f x → x ≡ get_or xs i d
    → after ≡ old ++ listed separator (map f (take (i + 1) xs))
elements_written separator f old before gapped after xs i d x within b g a e =
    a ∙ (ap (λ y. gapped ++ f y) e ∙ (ap (λ l. l ++ f (get_or xs i d)) (g ∙ ap (λ l. l ++ gap separator i) b) ∙ listed_next separator f old xs i d within))

-- a loop that writes the texts of the numbers that pass a test, a step on
pub kept_written : (separator : List ℕ) (f : ℕ → List ℕ) (p : ℕ → Bool) (old before after : List ℕ) (n m : ℕ) → m ≡ length (filter p (range_with_len 0 n))
    → before ≡ old ++ listed separator (map f (filter p (range_with_len 0 n))) → after ≡ before ++ cond (p n) (gap separator m ++ f n) []
    → after ≡ old ++ listed separator (map f (filter p (range_with_len 0 (n + 1))))
kept_written separator f p old before after n m count b a =
    a ∙ (ap (λ l. l ++ cond (p n) (gap separator m ++ f n) []) b ∙ listed_kept separator f p old n m count)
