-- Rows that are stored in two ways.
use Rattle.std.proofs.Common.{◌≡◌, ◌≢◌, ◌<◌, ◌∙◌, ℕ, zero, suc, Bool, true, false, IsTrue, List, [], ◌∷◌, Option, Some, None, length, refl, sym, ap, ap₂, arith, slice_index_or}
use Rattle.std.proofs.lemmas.List.{ext_get_or}
use Rattle.polars_arrays_flat.specs.Row.{Row, Null}
use Rattle.polars_arrays_flat.specs.StoredRows.{row, kept, masked, rows_under}
use Rattle.polars_arrays_flat.specs.Validity.{is_present, HasBits}
use Rattle.polars_compare_leaves.specs.Equality.{MissingEquality}
use Rattle.polars_compare.specs.RowsLaws.{Stored, rows_of, MissingByRows, RawEqualityByRows, RawOrderByRows}
use Rattle.polars_compare.proofs.Bits.{told-same}

-- two lists of bits of the missing equality of the same rows are the same
one-answer : {one_type : Type 0} (told : Bool) (xs ys : List Row) (bits bits' : List Bool)
    → MissingEquality told one_type xs ys bits → MissingEquality told one_type xs ys bits' → bits ≡ bits'
one-answer told xs ys bits bits' q r =
    ext_get_or false bits bits' (q.size ∙ sym r.size)
    (λ i h.
    let within : i < length xs = omega (arith, q.size) in
    told-same told _ _ (q.at_each i within) (r.at_each i within))

pub missing-by_rows : MissingByRows
missing-by_rows told types left right left' right' bits bits' e k q r =
    one-answer told (rows_of left) (rows_of right) bits bits' q (rw (e, k) r)

row-masked : (bits : List Bool) (xs : List Row) (i : ℕ) → length bits ≡ length xs → row (masked bits xs) i ≡ kept (slice_index_or bits i false) (row xs i)
row-masked [] xs i e = refl
row-masked (b ∷ bits) [] i e = absurd (omega arith)
row-masked (b ∷ bits) (x ∷ xs) zero e = refl
row-masked (b ∷ bits) (x ∷ xs) (suc i) e = row-masked bits xs i (omega arith)

-- row i of stored rows under a validity
row-under : (v : Option (List Bool)) (xs : List Row) (i : ℕ) → HasBits (length xs) v → row (rows_under v xs) i ≡ kept (is_present v i) (row xs i)
row-under None xs i h = refl
row-under (Some bits) xs i h = row-masked bits xs i h

-- a row that is not Null is there, it is present, and it is stored
pub record Shown (a : Stored) (i : ℕ) : Type 0 where
  pub within : i < length a.slots
  pub present : IsTrue (is_present a.mask i)
  pub stored : row a.slots i ≡ row (rows_of a) i

some-within : (xs : List Row) (i : ℕ) → row xs i ≢ Null → i < length xs
some-within [] i n = absurd (n refl)
some-within (x ∷ xs) zero n = omega arith
some-within (x ∷ xs) (suc i) n = omega (arith, some-within xs i n)

kept-some : (p : Bool) (x : Row) → kept p x ≢ Null → IsTrue p × (x ≢ Null)
kept-some true x n = (refl, n)
kept-some false x n = absurd (n refl)

shown : (a : Stored) (i : ℕ) → row (rows_of a) i ≢ Null → Shown a i
shown a i n =
    let under = row-under a.mask a.slots i a.bits in
    let some = kept-some (is_present a.mask i) (row a.slots i) (λ e. n (under ∙ e)) in
    record {
      within = some-within a.slots i some.1;
      present = some.0;
      stored = sym (under ∙ ap (λ (p : Bool). kept p (row a.slots i)) some.0);
    }

-- the same row, stored in two ways
module _ (a b : Stored) (e : rows_of a ≡ rows_of b) (i : ℕ) (n : row (rows_of a) i ≢ Null) where
  some-too : row (rows_of b) i ≢ Null
  some-too m = n (ap (λ (xs : List Row). row xs i) e ∙ m)

  stored-same : row a.slots i ≡ row b.slots i
  stored-same =
      (shown a i n).stored ∙ ap (λ (xs : List Row). row xs i) e ∙ sym (shown b i some-too).stored

pub raw_equality-by_rows : RawEqualityByRows
raw_equality-by_rows told types left right left' right' bits bits' e k q r i n =
    let l = shown left i n.0 in
    let m = shown right i n.1 in
    let l' = shown left' i (some-too left left' e i n.0) in
    let m' = shown right' i (some-too right right' k i n.1) in
    let there = q.at_present i l.within l.present m.present in
    let again = r.at_present i l'.within l'.present m'.present in
    told-same told _ _ there
    (rw (stored-same left left' e i n.0, stored-same right right' k i n.1) again)

pub raw_order-by_rows : RawOrderByRows
raw_order-by_rows test left right left' right' bits bits' e k q r i n =
    let l = shown left i n.0 in
    let m = shown right i n.1 in
    let l' = shown left' i (some-too left left' e i n.0) in
    let m' = shown right' i (some-too right right' k i n.1) in
    q.at_present i l.within l.present m.present
    ∙ ap₂ test (stored-same left left' e i n.0) (stored-same right right' k i n.1)
    ∙ sym (r.at_present i l'.within l'.present m'.present)
