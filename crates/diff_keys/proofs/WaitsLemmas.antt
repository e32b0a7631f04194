-- The rows that wait, after one left row more.
use Rattle.std.proofs.Common.{◌≡◌, ◌<◌, ◌≤◌, ℕ, zero, suc, Bool, true, false, List, [], ◌∷◌, Option, Some, None, get_or, length, set, take, arith, ap, sym, ◌∙◌, refl, subst, inl, inr, ◌≢◌}
use Rattle.std.proofs.lemmas.Bool.{cases_eq, cases_lt}
use Rattle.std.specs.Prelude.{option_map}
use Rattle.std.specs.Str.{bytes_eq}
use Rattle.diff_keys.specs.Chains.{AreChained, IsFirst, Waits, class_of}
use Rattle.diff_keys.specs.NthLaws.{bytes_eq-refl, found_by_number, is_nth, same_bytes}
use Rattle.diff_keys.specs.Partners.{Keys, count_of, key_at, number_of, one_more}
use Rattle.diff_keys.specs.Waiting.{nth, this_or_later}
use Rattle.diff_keys.proofs.ChainLemmas.{IsBehind, IsOf, IsWithout, chained_same, first_at_head, first_behind, taken_behind, taken_head}

pub unshifted_none : (o : Option ℕ) → option_map suc o ≡ None → o ≡ None
unshifted_none None e = refl
unshifted_none (Some i) e = absurd (cc)

-- past a number that no row has there is none
pub none_further : (q : List ℕ) (n : ℕ) (keys : Keys) → nth q n keys ≡ None → nth q (suc n) keys ≡ None
unfolding nth
none_further q n [] e = refl
none_further q n (x ∷ xs) e = further (bytes_eq x q) n (λ m. none_further q m xs) e
  where
    further : (b : Bool) (m : ℕ) → ((i : ℕ) → nth q i xs ≡ None → nth q (suc i) xs ≡ None)
        → this_or_later b m (λ i. nth q i xs) ≡ None → this_or_later b (suc m) (λ i. nth q i xs) ≡ None
    further true zero ih h = absurd (cc)
    further true (suc m) ih h = ap (option_map suc) (ih m (unshifted_none (nth q m xs) h))
    further false m ih h = ap (option_map suc) (ih m (unshifted_none (nth q m xs) h))

-- as many numbers further
pub none_past : (q : List ℕ) (n k : ℕ) (keys : Keys) → nth q n keys ≡ None → n ≤ k → nth q k keys ≡ None
none_past q n zero keys e rise = let same : n ≡ 0 = omega (arith, rise) in rw same at e
none_past q n (suc k) keys e rise = elim (cases_eq n (suc k)) [
  | inl here ↦ rw here at e
  | inr apart ↦ none_further q k keys (none_past q n k keys e (omega (arith, rise, apart)))
]

-- one row more
pub count_step : (q : List ℕ) (i : ℕ) (keys : Keys) → i < length keys → count_of q (take (suc i) keys) ≡ one_more (bytes_eq (key_at keys i) q) (count_of q (take i keys))
unfolding count_of
count_step q i [] h = absurd (omega arith)
count_step q zero (x ∷ xs) h = refl
count_step q (suc i) (x ∷ xs) h = swapped (bytes_eq x q) (bytes_eq (key_at xs i) q) (count_of q (take i xs)) _ (count_step q i xs (omega arith))
  where
    swapped : (b t : Bool) (n m : ℕ) → m ≡ one_more t n → one_more b m ≡ one_more t (one_more b n)
    swapped true true n m e = ap suc e
    swapped true false n m e = ap suc e
    swapped false true n m e = e
    swapped false false n m e = e

-- fewer rows of a key come before an earlier row
pub count_rises : (q : List ℕ) (i j : ℕ) (keys : Keys) → i ≤ j → count_of q (take i keys) ≤ count_of q (take j keys)
unfolding count_of
count_rises q zero j keys rise = omega arith
count_rises q (suc i) zero keys rise = absurd (omega (arith, rise))
count_rises q (suc i) (suc j) [] rise = omega arith
count_rises q (suc i) (suc j) (x ∷ xs) rise = more (bytes_eq x q) (count_rises q i j xs (omega (arith, rise)))
  where
    more : (b : Bool) → count_of q (take i xs) ≤ count_of q (take j xs) → one_more b (count_of q (take i xs)) ≤ one_more b (count_of q (take j xs))
    more true h = omega (arith, h)
    more false h = h

-- the first waiting row of a left row's key is the one with its number
pub first_is_nth : (left right : Keys) (i : ℕ) (q : List ℕ) (o : Option ℕ) → key_at left i ≡ q → IsFirst (IsOf right (Waits left right i) q) 0 (length right) o → o ≡ nth q (count_of q (take i left)) right
first_is_nth left right i q o key first = by_case (nth q (count_of q (take i left)) right) refl o first
  where
    n : ℕ
    n = count_of q (take i left)

    waits : (x : ℕ) → nth q n right ≡ Some x → IsOf right (Waits left right i) q x
    waits x is =
        let at = is_nth q n right x is in
        let low : count_of q (take i left) ≤ count_of q (take x right) = omega (arith, at.number) in
        (subst (λ k. count_of k (take i left) ≤ count_of k (take x right)) (sym at.key) low, at.key)

    by_case : (r : Option ℕ) → nth q n right ≡ r → (o : Option ℕ) → IsFirst (IsOf right (Waits left right i) q) 0 (length right) o → o ≡ r
    by_case None is None first = refl
    by_case None is (Some j) first =
        let key_is : key_at right j ≡ q = first.holds.1 in
        let low : n ≤ count_of q (take j right) = subst (λ k. count_of k (take i left) ≤ count_of k (take j right)) key_is first.holds.0 in
        let none : nth q (count_of q (take j right)) right ≡ None = none_past q n (count_of q (take j right)) right is low in
        let there : nth q (count_of q (take j right)) right ≡ Some j = subst (λ k. nth k (count_of k (take j right)) right ≡ Some j) key_is (found_by_number right j first.within) in
        absurd (let both : None ≡ Some j = sym none ∙ there in cc)
    by_case (Some x) is None first = absurd (first x (omega arith) (is_nth q n right x is).within (waits x is))
    by_case (Some x) is (Some j) first = ap Some (elim (cases_eq j x) [
      | inl here ↦ here
      | inr apart ↦ absurd (elim (cases_lt x j) [
        | inl less ↦ first.before x (omega arith) less (waits x is)
        | inr more ↦
            let at = is_nth q n right x is in
            let key_is : key_at right j ≡ q = first.holds.1 in
            let low : n ≤ count_of q (take j right) = subst (λ k. count_of k (take i left) ≤ count_of k (take j right)) key_is first.holds.0 in
            let one : count_of q (take (suc j) right) ≡ suc (count_of q (take j right)) = rw (count_step q j right first.within, key_is, bytes_eq-refl q) refl in
            let rises : count_of q (take (suc j) right) ≤ count_of q (take x right) = count_rises q (suc j) x right (omega (arith, more, apart)) in
            omega (arith, low, one, rises, at.number)
      ])
    ])

-- once a left row has found its partner all rows wait that waited but for this one
pub waits_without : (left right : Keys) (i h : ℕ) → i < length left → nth (key_at left i) (number_of left i) right ≡ Some h → IsWithout right (Waits left right i) (Waits left right (suc i)) h
waits_without left right i h low is = record {
  narrow = λ x inside w. narrow (bytes_eq (key_at left i) (key_at right x)) (count_of (key_at right x) (take i left)) (number_of right x) (rw (count_step (key_at right x) i left low) at w);
  out = out;
  wide = λ x inside apart w. rw (count_step (key_at right x) i left low) (wide x inside apart w (bytes_eq (key_at left i) (key_at right x)) refl);
}
  where
    narrow : (b : Bool) (m n : ℕ) → one_more b m ≤ n → m ≤ n
    narrow true m n h = omega (arith, h)
    narrow false m n h = h

    out : ¬ (Waits left right (suc i) h)
    out w =
        let at = is_nth (key_at left i) (number_of left i) right h is in
        let one : count_of (key_at left i) (take (suc i) left) ≡ suc (count_of (key_at left i) (take i left)) = rw (count_step (key_at left i) i left low, bytes_eq-refl (key_at left i)) refl in
        let more : count_of (key_at left i) (take (suc i) left) ≤ count_of (key_at left i) (take h right) = subst (λ k. count_of k (take (suc i) left) ≤ count_of k (take h right)) at.key w in
        omega (arith, one, more, at.number)

    wide : (x : ℕ) → x < length right → x ≢ h → Waits left right i x → (b : Bool) → bytes_eq (key_at left i) (key_at right x) ≡ b → one_more b (count_of (key_at right x) (take i left)) ≤ number_of right x
    wide x inside apart w false e = w
    wide x inside apart w true e =
        let key_is : key_at left i ≡ key_at right x = same_bytes (key_at left i) (key_at right x) e in
        let here : nth (key_at right x) (count_of (key_at right x) (take i left)) right ≡ Some h = subst (λ k. nth k (count_of k (take i left)) right ≡ Some h) key_is is in
        let other : count_of (key_at right x) (take i left) ≢ number_of right x = λ same.
        let both : Some x ≡ Some h = sym (found_by_number right x inside) ∙ (ap (λ m. nth (key_at right x) m right) (sym same) ∙ here) in
        apart (cc) in
        omega (arith, w, other)

-- where a left row has no partner all rows wait that waited
pub waits_same : (left right : Keys) (i : ℕ) → i < length left → nth (key_at left i) (number_of left i) right ≡ None → (x : ℕ) → x < length right → Waits left right i x → Waits left right (suc i) x
waits_same left right i low is x inside w = rw (count_step (key_at right x) i left low) (by_case (bytes_eq (key_at left i) (key_at right x)) refl)
  where
    by_case : (b : Bool) → bytes_eq (key_at left i) (key_at right x) ≡ b → one_more b (count_of (key_at right x) (take i left)) ≤ number_of right x
    by_case false e = w
    by_case true e =
        let key_is : key_at left i ≡ key_at right x = same_bytes (key_at left i) (key_at right x) e in
        let none : nth (key_at right x) (count_of (key_at right x) (take i left)) right ≡ None = subst (λ k. nth k (count_of k (take i left)) right ≡ None) key_is is in
        let past : nth (key_at right x) (number_of right x) right ≡ None = none_past (key_at right x) (count_of (key_at right x) (take i left)) (number_of right x) right none w in
        let clash : None ≡ Some x = sym past ∙ found_by_number right x inside in
        absurd (cc)

pub waits_fewer : (left right : Keys) (i x : ℕ) → i < length left → Waits left right (suc i) x → Waits left right i x
waits_fewer left right i x low w =
    let rises : count_of (key_at right x) (take i left) ≤ count_of (key_at right x) (take (suc i) left) = count_rises (key_at right x) i (suc i) left (omega arith) in
    omega (arith, rises, w)

-- the row is the partner of left row i, and the others are chained
pub record Took (left right : Keys) (i : ℕ) (row : Option ℕ) (heads next : List (Option ℕ)) : Type 0 where
  pub partner : row ≡ nth (key_at left i) (number_of left i) right
  pub rest : AreChained right (Waits left right (suc i)) heads next

pub took_none : (left right : Keys) (i : ℕ) (heads next : List (Option ℕ)) → i < length left → AreChained right (Waits left right i) heads next
    → IsFirst (IsOf right (Waits left right i) (key_at left i)) 0 (length right) None → Took left right i None heads next
took_none left right i heads next low chains first =
    let partner : None ≡ nth (key_at left i) (number_of left i) right = first_is_nth left right i (key_at left i) None refl first in
    record {
      partner = partner;
      rest = chained_same right (Waits left right i) (Waits left right (suc i)) heads next chains (λ x inside w. waits_fewer left right i x low w) (waits_same left right i low (sym partner));
    }

pub took_head : (left right : Keys) (i h : ℕ) (heads next : List (Option ℕ)) → i < length left → AreChained right (Waits left right i) heads next → class_of (length heads) (key_at left i) < length heads
    → get_or heads (class_of (length heads) (key_at left i)) None ≡ Some h → key_at right h ≡ key_at left i
    → Took left right i (Some h) (set heads (class_of (length heads) (key_at left i)) (get_or next h None)) next
took_head left right i h heads next low chains inside head key =
    let first : IsFirst (IsOf right (Waits left right i) (key_at left i)) 0 (length right) (Some h) = first_at_head right (Waits left right i) (key_at left i) h heads next chains inside head key in
    let partner : Some h ≡ nth (key_at left i) (number_of left i) right = first_is_nth left right i (key_at left i) (Some h) refl first in
    record {
      partner = partner;
      rest = taken_head right (Waits left right i) (Waits left right (suc i)) h (class_of (length heads) (key_at left i)) heads next (waits_without left right i h low (sym partner)) chains inside head;
    }

pub took_behind : (left right : Keys) (i b h : ℕ) (heads next : List (Option ℕ)) → i < length left → AreChained right (Waits left right i) heads next → IsBehind right (Waits left right i) (key_at left i) (length heads) b
    → get_or next b None ≡ Some h → key_at right h ≡ key_at left i
    → Took left right i (Some h) heads (set next b (get_or next h None))
took_behind left right i b h heads next low chains behind link key =
    let first : IsFirst (IsOf right (Waits left right i) (key_at left i)) 0 (length right) (Some h) = first_behind right (Waits left right i) (key_at left i) b h heads next chains behind link key in
    let partner : Some h ≡ nth (key_at left i) (number_of left i) right = first_is_nth left right i (key_at left i) (Some h) refl first in
    record {
      partner = partner;
      rest = taken_behind right (Waits left right i) (Waits left right (suc i)) b h heads next (waits_without left right i h low (sym partner)) chains behind.within behind.waits link;
    }
