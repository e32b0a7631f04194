-- Rows of two tables of which one lies after the other.
use Rattle.std.proofs.Common.{◌≡◌, ◌∙◌, ◌+◌, ◌-◌, ◌<◌, ◌⊎◌, ℕ, Bool, true, false, List, [], ◌∷◌, ◌++◌, length, take, arith, ap, sym, refl, subst, inl, inr, length-append}
use Rattle.std.proofs.Math.Seq.{take-append-add}
use Rattle.std.proofs.lemmas.Bool.{cases_lt}
use Rattle.std.proofs.lemmas.List.{get_or-append-add, get_or_append_left, take-append-le}
use Rattle.std.proofs.lemmas.List.Elements.{Contains-append_left, Contains-append_right, Contains-get_or}
use Rattle.std.specs.List.{Contains}
use Rattle.std.specs.Str.{bytes_eq}
use Rattle.diff_joins.specs.Laws.{ArePartnersBehind, JoinsPartners, ShareNoKey}
use Rattle.diff_keys.specs.NthLaws.{same_bytes}
use Rattle.diff_keys.specs.Partners.{Keys, ArePartners, count_of, key_at, number_of, one_more}

-- a place is in the first list, or in the second one
pub part_of : (n i m : ℕ) → i < n + m → (i < n) ⊎ ((k : ℕ) × (k < m) × (i ≡ n + k))
part_of n i m within = elim (cases_lt i n) [
  | inl before ↦ inl before
  | inr behind ↦ inr (i - n, omega (arith, behind, within), omega (arith, behind))
]

-- rows of a key are counted in one list and then in the other
pub count_append : (key : List ℕ) (xs ys : Keys) → count_of key (xs ++ ys) ≡ count_of key xs + count_of key ys
unfolding count_of
count_append key [] ys = omega arith
count_append key (x ∷ xs) ys = at (bytes_eq x key) (count_append key xs ys)
  where
    at : (b : Bool) → count_of key (xs ++ ys) ≡ count_of key xs + count_of key ys → one_more b (count_of key (xs ++ ys)) ≡ one_more b (count_of key xs) + count_of key ys
    at true ih = omega (arith, ih)
    at false ih = ih

-- no row has a key that is not in the list
count_none : (key : List ℕ) (xs : Keys) → ¬ (Contains xs key) → count_of key xs ≡ 0
unfolding count_of
count_none key [] none = refl
count_none key (x ∷ xs) none = at (bytes_eq x key) refl (count_none key xs (λ there. none (Contains-append_right (x ∷ []) xs key there)))
  where
    at : (b : Bool) → bytes_eq x key ≡ b → count_of key xs ≡ 0 → one_more b (count_of key xs) ≡ 0
    at true e ih = absurd (none (0, omega arith, same_bytes x key e))
    at false e ih = ih

pub key_left : (xs ys : Keys) (i : ℕ) → i < length xs → key_at (xs ++ ys) i ≡ key_at xs i
key_left xs ys i within = get_or_append_left xs ys [] i within

pub key_right : (xs ys : Keys) (k : ℕ) → key_at (xs ++ ys) (length xs + k) ≡ key_at ys k
key_right xs ys k = get_or-append-add xs ys k []

pub number_left : (xs ys : Keys) (i : ℕ) → i < length xs → number_of (xs ++ ys) i ≡ number_of xs i
number_left xs ys i within =
    ap (λ q. count_of q (take i (xs ++ ys))) (key_left xs ys i within) ∙ ap (count_of (key_at xs i)) (take-append-le i xs ys (omega (arith, within)))

pub number_right : (xs ys : Keys) (k : ℕ) → ¬ (Contains xs (key_at ys k)) → number_of (xs ++ ys) (length xs + k) ≡ number_of ys k
number_right xs ys k none =
    let counted : number_of (xs ++ ys) (length xs + k) ≡ count_of (key_at ys k) xs + count_of (key_at ys k) (take k ys) =
    ap (λ q. count_of q (take (length xs + k) (xs ++ ys))) (key_right xs ys k)
    ∙ (ap (count_of (key_at ys k)) (take-append-add xs ys k) ∙ count_append (key_at ys k) xs (take k ys)) in
    let before : count_of (key_at ys k) xs ≡ 0 = count_none (key_at ys k) xs none in
    omega (arith, counted, before)

-- the keys of rows, and of which tables they are
pub has_key : (xs : Keys) (i : ℕ) → i < length xs → Contains xs (key_at xs i)
has_key xs i within = Contains-get_or xs i [] within

module _ (left right later_left later_right : Keys) (apart : ShareNoKey left right later_left later_right) where
  first_left : (key : List ℕ) → Contains left key → Contains (left ++ right) key
  first_left key there = Contains-append_left left right key there

  first_right : (key : List ℕ) → Contains right key → Contains (left ++ right) key
  first_right key there = Contains-append_right left right key there

  later_from_left : (key : List ℕ) → Contains later_left key → Contains (later_left ++ later_right) key
  later_from_left key there = Contains-append_left later_left later_right key there

  later_from_right : (key : List ℕ) → Contains later_right key → Contains (later_left ++ later_right) key
  later_from_right key there = Contains-append_right later_left later_right key there

  -- two rows that lie in the first tables
  pub both_first : (i j : ℕ) → i < length left → j < length right → ArePartners (left ++ later_left) (right ++ later_right) i j → ArePartners left right i j
  both_first i j l r h = record {
    left_row = l;
    right_row = r;
    one_key = sym (key_left left later_left i l) ∙ (h.one_key ∙ key_left right later_right j r);
    one_number = sym (number_left left later_left i l) ∙ (h.one_number ∙ number_left right later_right j r);
  }

  pub first_both : (i j : ℕ) → ArePartners left right i j → ArePartners (left ++ later_left) (right ++ later_right) i j
  first_both i j h = record {
    left_row = omega (arith, h.left_row, length-append left later_left);
    right_row = omega (arith, h.right_row, length-append right later_right);
    one_key = key_left left later_left i h.left_row ∙ (h.one_key ∙ sym (key_left right later_right j h.right_row));
    one_number = number_left left later_left i h.left_row ∙ (h.one_number ∙ sym (number_left right later_right j h.right_row));
  }

  -- the number of a row of the second tables
  later_left_number : (k : ℕ) → k < length later_left → number_of (left ++ later_left) (length left + k) ≡ number_of later_left k
  later_left_number k within = number_right left later_left k (λ there. apart (key_at later_left k) (first_left _ there) (later_from_left _ (has_key later_left k within)))

  later_right_number : (k : ℕ) → k < length later_right → number_of (right ++ later_right) (length right + k) ≡ number_of later_right k
  later_right_number k within = number_right right later_right k (λ there. apart (key_at later_right k) (first_right _ there) (later_from_right _ (has_key later_right k within)))

  -- two rows that lie in the second tables
  pub both_later : (i j : ℕ) → i < length later_left → j < length later_right → ArePartners (left ++ later_left) (right ++ later_right) (length left + i) (length right + j)
      → ArePartners later_left later_right i j
  both_later i j l r h = record {
    left_row = l;
    right_row = r;
    one_key = sym (key_right left later_left i) ∙ (h.one_key ∙ key_right right later_right j);
    one_number = sym (later_left_number i l) ∙ (h.one_number ∙ later_right_number j r);
  }

  pub later_both : (i j : ℕ) → ArePartners later_left later_right i j → ArePartners (left ++ later_left) (right ++ later_right) (length left + i) (length right + j)
  later_both i j h = record {
    left_row = omega (arith, h.left_row, length-append left later_left);
    right_row = omega (arith, h.right_row, length-append right later_right);
    one_key = key_right left later_left i ∙ (h.one_key ∙ sym (key_right right later_right j));
    one_number = later_left_number i h.left_row ∙ (h.one_number ∙ sym (later_right_number j h.right_row));
  }

  -- of two partners both lie in the first tables, or both in the second ones
  pub apart_cases : (i j : ℕ) → ArePartners (left ++ later_left) (right ++ later_right) i j
      → ArePartners left right i j ⊎ ArePartnersBehind (length left) (length right) later_left later_right i j
  apart_cases i j h =
      elim (part_of (length left) i (length later_left) (omega (arith, h.left_row, length-append left later_left))) [
        | inl li ↦ elim (part_of (length right) j (length later_right) (omega (arith, h.right_row, length-append right later_right))) [
          | inl rj ↦ inl (both_first i j li rj h)
          | inr (n, rn, jn) ↦
              let same : key_at left i ≡ key_at later_right n =
              sym (key_left left later_left i li) ∙ (h.one_key ∙ (ap (key_at (right ++ later_right)) jn ∙ key_right right later_right n)) in
              absurd (apart (key_at left i) (first_left _ (has_key left i li)) (subst (Contains (later_left ++ later_right)) (sym same) (later_from_right _ (has_key later_right n rn))))
        ]
        | inr (m, lm, im) ↦ elim (part_of (length right) j (length later_right) (omega (arith, h.right_row, length-append right later_right))) [
          | inl rj ↦
              let same : key_at right j ≡ key_at later_left m =
              sym (key_left right later_right j rj) ∙ (sym h.one_key ∙ (ap (key_at (left ++ later_left)) im ∙ key_right left later_left m)) in
              absurd (apart (key_at right j) (first_right _ (has_key right j rj)) (subst (Contains (later_left ++ later_right)) (sym same) (later_from_left _ (has_key later_left m lm))))
          | inr (n, rn, jn) ↦ inr (record {
            left_row = m;
            right_row = n;
            left_is = im;
            right_is = jn;
            partners = both_later m n lm rn (subst (λ p. ArePartners (left ++ later_left) (right ++ later_right) (length left + m) p) jn
                (subst (λ p. ArePartners (left ++ later_left) (right ++ later_right) p j) im h));
          })
        ]
      ]

pub joins_partners : JoinsPartners
joins_partners left right later_left later_right apart i j = (
  apart_cases left right later_left later_right apart i j,
  λ h. elim h [
    | inl first ↦ first_both left right later_left later_right apart i j first
    | inr p ↦ subst (λ n. ArePartners (left ++ later_left) (right ++ later_right) i n) (sym p.right_is)
        (subst (λ n. ArePartners (left ++ later_left) (right ++ later_right) n (length right + p.right_row)) (sym p.left_is)
        (later_both left right later_left later_right apart p.left_row p.right_row p.partners))
  ],
)
