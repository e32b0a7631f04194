-- Laws: the row that has a key and a number, and the partner of a row.
use Rattle.std.proofs.Common.{◌≡◌, ◌<◌, ℕ, zero, suc, Bool, true, false, List, [], ◌∷◌, Option}
use Rattle.std.proofs.Common.{Some, None, length, take, if◌then◌else◌, arith, ap, sym, ◌∙◌, refl}
use Rattle.std.proofs.Common.{subst}
use Rattle.std.proofs.lemmas.Slice.Eq.{bytes_eq-Decides}
use Rattle.std.specs.Prelude.{option_map}
use Rattle.std.specs.Str.{bytes_eq}
use Rattle.diff_keys.specs.Partners.{Keys, ArePartners, IsPartner, count_of, key_at, number_of}
use Rattle.diff_keys.specs.Partners.{one_more}
use Rattle.diff_keys.specs.Waiting.{next_from, nth, this_or_later}

-- keys that compare as equal are the same bytes
pub same_bytes : (xs ys : List ℕ) → bytes_eq xs ys ≡ true → xs ≡ ys
same_bytes xs ys h = (bytes_eq-Decides xs ys).0 h

pub bytes_eq-refl : (xs : List ℕ) → bytes_eq xs xs ≡ true
bytes_eq-refl xs = (bytes_eq-Decides xs xs).1 refl

-- a place in a list is one further once an element stands before the list
pub shifted : (t : Bool) (j : ℕ) (a c : Option ℕ) → a ≡ (if t then Some j else c) → option_map suc a
    ≡ (if t then Some (suc j) else option_map suc c)
shifted true j a c e = ap (option_map suc) e
shifted false j a c e = ap (option_map suc) e

pub unshifted : (o : Option ℕ) (j : ℕ) → option_map suc o ≡ Some j → (i : ℕ) × (o ≡ Some i)
    × (j ≡ suc i)
unshifted None j e = absurd (cc)
unshifted (Some i) j e = (i, refl, cc)

pub here_step : (b : Bool) (later : ℕ → Option ℕ) → this_or_later b 0 later
    ≡ (if b then Some 0 else this_or_later b (one_more b 0) later)
here_step true later = refl
here_step false later = refl

pub later_step : (b t : Bool) (j m n : ℕ) (later : ℕ → Option ℕ) → later n
    ≡ (if t then Some j else later m)
    → this_or_later b (one_more b n) later
    ≡ (if t then Some (suc j) else this_or_later b (one_more b m) later)
later_step true t j m n later e = shifted t j (later n) (later m) e
later_step false t j m n later e = shifted t j (later n) (later m) e

-- the next row from row j on is row j, or the next one after it
pub next_from_step : (q : List ℕ) (j : ℕ) (keys : Keys) → j < length keys
    → next_from q j keys ≡ (if bytes_eq (key_at keys j) q then Some j else next_from q (suc j) keys)
unfolding nth count_of
next_from_step q j [] h = absurd (omega arith)
next_from_step q zero (x ∷ xs) h = here_step (bytes_eq x q) (λ m. nth q m xs)
next_from_step q (suc j) (x ∷ xs) h =
    later_step (bytes_eq x q) (bytes_eq (key_at xs j) q) j (count_of q (take (suc j) xs))
    (count_of q (take j xs)) (λ m. nth q m xs) (next_from_step q j xs (omega arith))

-- row j is that of the key q with the number n
pub record IsNth (q : List ℕ) (n : ℕ) (keys : Keys) (j : ℕ) : Type 0 where
  pub within : j < length keys
  pub key : key_at keys j ≡ q
  pub number : count_of q (take j keys) ≡ n

-- row j + 1 is that of the key q once one row more stands before the rows
pub later_nth : (q : List ℕ) (b : Bool) (m : ℕ) (x : List ℕ) (xs : Keys) (i : ℕ) → bytes_eq x q ≡ b
    → IsNth q m xs i → IsNth q (one_more b m) (x ∷ xs) (suc i)
unfolding count_of
later_nth q b m x xs i eb h = record {
  within = omega (arith, h.within);
  key = h.key;
  number = rw (eb, h.number) refl;
}

pub is_nth : (q : List ℕ) (n : ℕ) (keys : Keys) (j : ℕ) → nth q n keys ≡ Some j → IsNth q n keys j
unfolding nth count_of
is_nth q n [] j e = absurd (cc)
is_nth q n (x ∷ xs) j e = at (bytes_eq x q) n (λ m i. is_nth q m xs i) refl e
  where
    at : (b : Bool) (m : ℕ) → ((i k : ℕ) → nth q i xs ≡ Some k → IsNth q i xs k) → bytes_eq x q ≡ b
        → this_or_later b m (λ i. nth q i xs) ≡ Some j → IsNth q m (x ∷ xs) j
    at true zero ih eb h =
        let zero_is : 0 ≡ j = cc in
        subst (λ k. IsNth q 0 (x ∷ xs) k) zero_is
        (record { within = omega arith; key = same_bytes x q eb; number = refl })
    at true (suc m) ih eb h =
        let one = unshifted (nth q m xs) j h in
        subst (λ k. IsNth q (suc m) (x ∷ xs) k) (sym one.2)
        (later_nth q true m x xs one.0 eb (ih m one.0 one.1))
    at false m ih eb h =
        let one = unshifted (nth q m xs) j h in
        subst (λ k. IsNth q m (x ∷ xs) k) (sym one.2)
        (later_nth q false m x xs one.0 eb (ih m one.0 one.1))

-- a row is found by its key and number
pub found_by_number : (keys : Keys) (j : ℕ) → j < length keys
    → nth (key_at keys j) (number_of keys j) keys ≡ Some j
found_by_number keys j h =
    rw (bytes_eq-refl (key_at keys j)) at (next_from_step (key_at keys j) j keys h)

-- the row found for left row i is its partner, and where none is found it has none
pub found_partners : (left right : Keys) (i : ℕ) (found : Option ℕ) → i < length left → found
    ≡ nth (key_at left i) (number_of left i) right → IsPartner left right i found
found_partners left right i None h e = λ j pair.
    let there : nth (key_at right j) (number_of right j) right
    ≡ Some j = found_by_number right j pair.right_row in
    let keyed : nth (key_at left i) (number_of right j) right
    ≡ Some j = subst
    (λ k. nth k (number_of right j) right ≡ Some j) (sym pair.one_key) there in
    let here : nth (key_at left i) (number_of left i) right
    ≡ Some j = subst
    (λ m. nth (key_at left i) m right ≡ Some j) (sym pair.one_number) keyed in
    let clash : None ≡ Some j = e ∙ here in
    absurd (cc)
found_partners left right i (Some j) h e =
    let at = is_nth _ _ right j (sym e) in
    record {
      left_row = h;
      right_row = at.within;
      one_key = sym at.key;
      one_number =
          rw at.key (sym at.number);
    }

-- the partner of a row is found by the row's key and number
pub partner_found : (left right : Keys) (i j : ℕ) → ArePartners left right i j
    → nth (key_at left i) (number_of left i) right ≡ Some j
partner_found left right i j h =
    ap (λ q. nth q (number_of left i) right) h.one_key ∙
    (ap (λ n. nth (key_at right j) n right) h.one_number ∙ found_by_number right j h.right_row)
