-- Raw bits that are joined with two validities are missing equality.
use Rattle.std.proofs.Common.{replicate, ◌≡◌, ◌≢◌, ◌<◌, ◌↔◌, ◌⊎◌, ◌∙◌, ℕ, zero, suc, Bool, true, false, not, IsTrue, List, [], ◌∷◌, Option, Some, None, length, refl, sym, ap, subst, inl, inr, arith, slice_index_or}
use Rattle.std.proofs.lemmas.List.{length-replicate, get_or-replicate}
use Rattle.polars_arrays_flat.specs.Row.{Row, Null, Int, Truth, Bytes, Rows, Fields, Entry}
use Rattle.polars_arrays_flat.specs.StoredRows.{row, kept, masked, rows_under, NullSlots}
use Rattle.polars_arrays_flat.specs.Validity.{is_present, HasBits}
use Rattle.polars_compare_leaves.specs.Equality.{RawEquality, EqualRows, MissingEquality}
use Rattle.polars_compare_leaves.specs.Joining.{joined_bit, Joined}

row-masked : (bits : List Bool) (xs : List Row) (i : ℕ) → length bits ≡ length xs → row (masked bits xs) i ≡ kept (slice_index_or bits i false) (row xs i)
row-masked [] xs i e = refl
row-masked (b ∷ bits) [] i e = absurd (omega arith)
row-masked (b ∷ bits) (x ∷ xs) zero e = refl
row-masked (b ∷ bits) (x ∷ xs) (suc i) e = row-masked bits xs i (omega arith)

-- row i of stored rows under a validity
row-under : (v : Option (List Bool)) (xs : List Row) (i : ℕ) → HasBits (length xs) v → row (rows_under v xs) i ≡ kept (is_present v i) (row xs i)
row-under None xs i h = refl
row-under (Some bits) xs i h = row-masked bits xs i h

length-masked : (bits : List Bool) (xs : List Row) → length bits ≡ length xs → length (masked bits xs) ≡ length xs
length-masked [] xs e = e
length-masked (b ∷ bits) [] e = absurd (omega arith)
length-masked (b ∷ bits) (x ∷ xs) e = ap suc (length-masked bits xs (omega arith))

length-under : (v : Option (List Bool)) (xs : List Row) → HasBits (length xs) v → length (rows_under v xs) ≡ length xs
length-under None xs h = refl
length-under (Some bits) xs h = length-masked bits xs h

not-own : (b : Bool) → not b ≡ b → ⊥
not-own true e = cc
not-own false e = cc

null_or_not : (x : Row) → (x ≡ Null) ⊎ (x ≢ Null)
null_or_not Null = inl refl
null_or_not (Int n) = inr (λ e. cc)
null_or_not (Truth b) = inr (λ e. cc)
null_or_not (Bytes b) = inr (λ e. cc)
null_or_not (Rows xs) = inr (λ e. cc)
null_or_not (Fields xs) = inr (λ e. cc)
null_or_not (Entry x) = inr (λ e. cc)

-- one row, by whether each side is present
one-row : (one_type : Type 0) (told raw p q bit : Bool) (x y : Row) → bit ≡ joined_bit told raw p q
    → (IsTrue p → IsTrue q → (raw ≡ told) ↔ (one_type × (x ≡ y)))
    → (x ≡ Null → IsTrue q × one_type) → (y ≡ Null → IsTrue p)
    → (bit ≡ told) ↔ EqualRows one_type (kept p x) (kept q y)
one-row one_type told raw true true bit x y e right nx ny =
    let r = right refl refl in (
      (λ t. let s = r.0 (sym e ∙ t) in elim (null_or_not x) [
        | inl n ↦ inl (n, sym s.1 ∙ n)
        | inr n ↦ inr (n, (λ m. n (s.1 ∙ m)), s.0, s.1)
      ]),
      (λ s. elim s [
        | inl b ↦ e ∙ r.1 ((nx b.0).1, b.0 ∙ sym b.1)
        | inr b ↦ e ∙ r.1 (b.2, b.3)
      ]),
    )
one-row one_type told raw true false bit x y e right nx ny = (
  (λ t. absurd (not-own told (sym e ∙ t))),
  (λ s. elim s [ inl b ↦ let f = (nx b.0).0 in absurd (cc) | inr b ↦ absurd (b.1 refl) ]),
)
one-row one_type told raw false true bit x y e right nx ny = (
  (λ t. absurd (not-own told (sym e ∙ t))),
  (λ s. elim s [ inl b ↦ let f = ny b.1 in absurd (cc) | inr b ↦ absurd (b.0 refl) ]),
)
one-row one_type told raw false false bit x y e right nx ny = ((λ t. inl (refl, refl)), (λ s. e))

present-none : (v : Option (List Bool)) (i : ℕ) → v ≡ None → IsTrue (is_present v i)
present-none v i e = ap (λ (w : Option (List Bool)). is_present w i) e

module _ (one_type back : Type 0) (told : Bool) (l r : Option (List Bool)) (xs ys : List Row) where
  -- raw equality joined with the validities is missing equality, whatever kind of array it is
  pub missing-from-raw : (raw bits : List Bool)
      → HasBits (length xs) l → HasBits (length ys) r → length xs ≡ length ys
      → ((i : ℕ) → NullSlots xs l r (one_type × back) i) → ((i : ℕ) → NullSlots ys r l (back × one_type) i)
      → RawEquality told one_type l r xs ys raw → Joined told l r raw bits
      → MissingEquality told one_type (rows_under l xs) (rows_under r ys) bits
  missing-from-raw raw bits hl hr len nx ny q j = record {
    size = j.size ∙ q.size ∙ sym (length-under l xs hl);
    at_each = λ i h.
        let below : i < length xs = subst (λ (n : ℕ). i < n) (length-under l xs hl) h in
        let below_raw : i < length raw = omega (arith, q.size) in
        let below_ys : i < length ys = omega arith in
        let bit = one-row one_type told (slice_index_or raw i false) (is_present l i) (is_present r i) (slice_index_or bits i false) (row xs i) (row ys i) (j.at_each i below_raw) (q.at_present i below) (λ n. let k = nx i below n in (present-none r i k.1, k.2.0)) (λ n. present-none l i (ny i below_ys n).1) in
        rw (row-under l xs i hl, row-under r ys i hr) bit;
  }

-- a row that is not Null, repeated, is nowhere Null
pub repeated-present : (one_type : Type 0) (l r : Option (List Bool)) (n : ℕ) (x : Row) → x ≢ Null → (i : ℕ) → NullSlots (replicate n x) l r one_type i
repeated-present one_type l r n x some i below is_null =
    let within : i < n = rw length-replicate at below in
    absurd (some (sym (get_or-replicate n i x Null within) ∙ is_null))
