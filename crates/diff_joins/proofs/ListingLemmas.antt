-- Numbers that are listed, and after them others that lie further on.
use Rattle.std.proofs.Common.{◌≡◌, ◌∙◌, ◌+◌, ◌<◌, ◌≤◌, ◌↔◌, ◌⊎◌, ℕ, zero, suc, List, [], ◌∷◌, length, map, arith, ap, sym, refl, subst, inl, inr, length-append}
use Rattle.std.proofs.lemmas.Grind.{get_or_default_zero}
use Rattle.std.proofs.lemmas.List.{get_or-append-add, get_or-map, get_or_append_left, length-map}
use Rattle.std.proofs.lemmas.List.Elements.{Contains-append_cases, Contains-append_left, Contains-append_right, Contains-get_or}
use Rattle.std.specs.List.{Contains}
use Rattle.std.specs.Prelude.{slice_index}
use Rattle.diff_joins.specs.Laws.{with_later}
use Rattle.diff_joins.proofs.PlaceLemmas.{part_of}
use Rattle.diff_keys.specs.Rising.{ListsRising}
use Rattle.diff_keys.specs.RisingLaws.{listed_below}

pub count_joined : (n : ℕ) (xs ys : List ℕ) → length (with_later n xs ys) ≡ length xs + length ys
count_joined n xs ys = length-append xs (map (λ k. n + k) ys) ∙ ap (λ l. length xs + l) (length-map ys (λ k. n + k))

pub at_first : (n : ℕ) (xs ys : List ℕ) (k : ℕ) → k < length xs → slice_index (with_later n xs ys) k ≡ slice_index xs k
at_first n xs ys k within = get_or_append_left xs (map (λ p. n + p) ys) 0 k within

pub at_later : (n : ℕ) (xs ys : List ℕ) (k : ℕ) → k < length ys → slice_index (with_later n xs ys) (length xs + k) ≡ n + slice_index ys k
at_later n xs ys k within = get_or-append-add xs (map (λ p. n + p) ys) k 0 ∙ get_or-map (λ p. n + p) ys k 0 0 within

-- a number that is listed has a place
pub place_of : (xs : List ℕ) (x : ℕ) → Contains xs x → (k : ℕ) × (k < length xs) × (slice_index xs k ≡ x)
place_of xs x (k, within, is) = (k, within, sym (get_or_default_zero xs k x within) ∙ is)

pub listed_at : (xs : List ℕ) (x k : ℕ) → k < length xs → slice_index xs k ≡ x → Contains xs x
listed_at xs x k within is = subst (Contains xs) is (Contains-get_or xs k 0 within)

-- a number that is listed is one of the first, or lies further on
pub listed_cases : (n : ℕ) (xs ys : List ℕ) (x : ℕ) → Contains (with_later n xs ys) x → Contains xs x ⊎ ((y : ℕ) × Contains ys y × (x ≡ n + y))
listed_cases n xs ys x there = elim (Contains-append_cases xs (map (λ k. n + k) ys) x there) [
  | inl first ↦ inl first
  | inr later ↦
      let (k, within, is) = place_of (map (λ p. n + p) ys) x later in
      let inside : k < length ys = omega (arith, within, length-map ys (λ (p : ℕ). n + p)) in
      inr (slice_index ys k, Contains-get_or ys k 0 inside, sym is ∙ get_or-map (λ p. n + p) ys k 0 0 inside)
]

pub listed_first : (n : ℕ) (xs ys : List ℕ) (x : ℕ) → Contains xs x → Contains (with_later n xs ys) x
listed_first n xs ys x there = Contains-append_left xs (map (λ k. n + k) ys) x there

pub listed_later : (n : ℕ) (xs ys : List ℕ) (y : ℕ) → Contains ys y → Contains (with_later n xs ys) (n + y)
listed_later n xs ys y there =
    let (k, within, is) = place_of ys y there in
    listed_at (with_later n xs ys) (n + y) (length xs + k) (omega (arith, within, count_joined n xs ys)) (at_later n xs ys k within ∙ ap (λ p. n + p) is)

-- both lists rise, and the first one's numbers are below n
pub joined_rise : (n : ℕ) (xs ys : List ℕ) → ((k : ℕ) → k < length xs → slice_index xs k < n)
    → ((k : ℕ) → suc k < length xs → slice_index xs k < slice_index xs (suc k))
    → ((k : ℕ) → suc k < length ys → slice_index ys k < slice_index ys (suc k))
    → (k : ℕ) → suc k < length (with_later n xs ys) → slice_index (with_later n xs ys) k < slice_index (with_later n xs ys) (suc k)
joined_rise n xs ys below first later k within = elim (part_of (length xs) (suc k) (length ys) (omega (arith, within, count_joined n xs ys))) [
  | inl inside ↦
      let here : slice_index (with_later n xs ys) k ≡ slice_index xs k = at_first n xs ys k (omega (arith, inside)) in
      let next : slice_index (with_later n xs ys) (suc k) ≡ slice_index xs (suc k) = at_first n xs ys (suc k) inside in
      rw (here, next) (first k inside)
  | inr (zero, some, is) ↦
      let last : k < length xs = omega (arith, is) in
      let here : slice_index (with_later n xs ys) k ≡ slice_index xs k = at_first n xs ys k last in
      let next : slice_index (with_later n xs ys) (suc k) ≡ n + slice_index ys 0 = ap (slice_index (with_later n xs ys)) is ∙ at_later n xs ys 0 some in
      let low = below k last in
      rw (here, next) (omega (arith, low))
  | inr (suc p, some, is) ↦
      let before : p < length ys = omega (arith, some) in
      let stood : k ≡ length xs + p = omega (arith, is) in
      let here : slice_index (with_later n xs ys) k ≡ n + slice_index ys p = ap (slice_index (with_later n xs ys)) stood ∙ at_later n xs ys p before in
      let next : slice_index (with_later n xs ys) (suc k) ≡ n + slice_index ys (suc p) = ap (slice_index (with_later n xs ys)) is ∙ at_later n xs ys (suc p) some in
      let less = later p some in
      rw (here, next) (omega (arith, less))
]

-- the numbers below n for which P holds, and those for which Q holds of what lies after
pub rising_joined : (P Q R : ℕ → Type 0) (n m t : ℕ) (xs ys : List ℕ) → ListsRising P n xs → ListsRising Q m ys → t ≡ n + m
    → ((i : ℕ) → i < n → R i ↔ P i) → ((i : ℕ) → i < m → R (n + i) ↔ Q i) → ListsRising R t (with_later n xs ys)
rising_joined P Q R n m t xs ys first later total is_first is_later = record {
  all = λ i. (
    λ there. elim (listed_cases n xs ys i there) [
      | inl here ↦ let was : (i < n) × P i = (first.all i).0 here in (omega (arith, was.0, total), (is_first i was.0).1 was.1)
      | inr (y, here, is) ↦
          let was : (y < m) × Q y = (later.all y).0 here in
          (omega (arith, was.0, total, is), subst R (sym is) ((is_later y was.0).1 was.1))
    ],
    λ h. back i h (part_of n i m (let low : i < t = h.0 in omega (arith, low, total))),
  );
  in_order = joined_rise n xs ys (listed_below P n xs first) first.in_order later.in_order;
}
  where
    back : (i : ℕ) → (i < t) × R i → (i < n) ⊎ ((k : ℕ) × (k < m) × (i ≡ n + k)) → Contains (with_later n xs ys) i
    back i h (inl below) = listed_first n xs ys i ((first.all i).1 (below, (is_first i below).0 h.1))
    back i h (inr (k, within, is)) =
        rw is (listed_later n xs ys k ((later.all k).1 (within, (is_later k within).0 (subst R is h.1))))

-- numbers that rise are listed in one way
above_first : (x : ℕ) (xs : List ℕ) → ((k : ℕ) → suc k < length (x ∷ xs) → slice_index (x ∷ xs) k < slice_index (x ∷ xs) (suc k))
    → (k : ℕ) → k < length xs → x < slice_index xs k
above_first x xs rise zero within = rise 0 (omega (arith, within))
above_first x xs rise (suc k) within =
    let before = above_first x xs rise k (omega (arith, within)) in
    let step = rise (suc k) (omega (arith, within)) in
    omega (arith, before, step)

tail_rise : (x : ℕ) (xs : List ℕ) → ((k : ℕ) → suc k < length (x ∷ xs) → slice_index (x ∷ xs) k < slice_index (x ∷ xs) (suc k))
    → (k : ℕ) → suc k < length xs → slice_index xs k < slice_index xs (suc k)
tail_rise x xs rise k within = rise (suc k) (omega (arith, within))

-- the first one of two rising lists of the same numbers is the same
heads_same : (x y : ℕ) (xs ys : List ℕ) → ((k : ℕ) → suc k < length (y ∷ ys) → slice_index (y ∷ ys) k < slice_index (y ∷ ys) (suc k))
    → Contains (y ∷ ys) x → y ≤ x
heads_same x y xs ys rise there = at (place_of (y ∷ ys) x there)
  where
    at : (k : ℕ) × (k < length (y ∷ ys)) × (slice_index (y ∷ ys) k ≡ x) → y ≤ x
    at (zero, within, is) = let same : y ≡ x = is in omega (arith, same)
    at (suc k, within, is) =
        let low = above_first y ys rise k (omega (arith, within)) in
        let same : slice_index ys k ≡ x = is in
        omega (arith, low, same)

-- a number after the first one is listed after it
behind_first : (x y : ℕ) (xs : List ℕ) → Contains (x ∷ xs) y → x < y → Contains xs y
behind_first x y xs there less = at (place_of (x ∷ xs) y there)
  where
    at : (k : ℕ) × (k < length (x ∷ xs)) × (slice_index (x ∷ xs) k ≡ y) → Contains xs y
    at (zero, within, is) = let same : x ≡ y = is in absurd (omega (arith, same, less))
    at (suc k, within, is) = listed_at xs y k (omega (arith, within)) is

pub one_listing : (xs ys : List ℕ) → ((k : ℕ) → suc k < length xs → slice_index xs k < slice_index xs (suc k))
    → ((k : ℕ) → suc k < length ys → slice_index ys k < slice_index ys (suc k))
    → ((x : ℕ) → Contains xs x ↔ Contains ys x) → xs ≡ ys
one_listing [] [] rx ry same = refl
one_listing [] (y ∷ ys) rx ry same = absurd (let (k, within, _) = (same y).1 (0, omega arith, refl) in omega (arith, within))
one_listing (x ∷ xs) [] rx ry same = absurd (let (k, within, _) = (same x).0 (0, omega arith, refl) in omega (arith, within))
one_listing (x ∷ xs) (y ∷ ys) rx ry same =
    let low : y ≤ x = heads_same x y xs ys ry ((same x).0 (0, omega arith, refl)) in
    let high : x ≤ y = heads_same y x ys xs rx ((same y).1 (0, omega arith, refl)) in
    let head : x ≡ y = omega (arith, low, high) in
    ap (λ h. h ∷ xs) head ∙ ap (λ l. y ∷ l) (one_listing xs ys (tail_rise x xs rx) (tail_rise y ys ry) (λ z. (
      λ there.
          let (k, within, is) = place_of xs z there in
          let less = above_first x xs rx k within in
          behind_first y z ys ((same z).0 (Contains-append_right (x ∷ []) xs z there)) (omega (arith, less, is, head)),
      λ there.
          let (k, within, is) = place_of ys z there in
          let less = above_first y ys ry k within in
          behind_first x z xs ((same z).1 (Contains-append_right (y ∷ []) ys z there)) (omega (arith, less, is, head)),
    )))

pub one_rising : (P : ℕ → Type 0) (n m : ℕ) (xs ys : List ℕ) → ListsRising P n xs → ListsRising P m ys → n ≡ m → xs ≡ ys
one_rising P n m xs ys h g same = one_listing xs ys h.in_order g.in_order (λ x. (
  λ there. let was : (x < n) × P x = (h.all x).0 there in (g.all x).1 (omega (arith, was.0, same), was.1),
  λ there. let was : (x < m) × P x = (g.all x).0 there in (h.all x).1 (omega (arith, was.0, same), was.1),
))
