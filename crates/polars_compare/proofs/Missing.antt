-- What bits of missing equality say of rows.
use Rattle.std.proofs.Common.{◌≡◌, ◌≢◌, ◌<◌, ◌↔◌, ◌⊎◌, ◌∙◌, ℕ, Bool, true, false, not, IsTrue, List, length, map, refl, sym, inl, inr, arith, slice_index_or}
use Rattle.std.proofs.lemmas.List.{ext_get_or, get_or-map, length-map}
use Rattle.polars_arrays_flat.specs.Row.{Row, Null, Int, Truth, Bytes, Rows, Fields, Entry}
use Rattle.polars_arrays_flat.specs.StoredRows.{row}
use Rattle.polars_compare_leaves.specs.Equality.{EqualRows}
use Rattle.polars_compare.specs.MissingLaws.{Equality, MissingIsReflexive, MissingIsSymmetric, MissingIsTransitive, UnequalIsNotEqual}
use Rattle.polars_compare.specs.Types.{OneType}
use Rattle.polars_compare.proofs.Bits.{told-same, told-not, true-within}

null_or_not : (x : Row) → (x ≡ Null) ⊎ (x ≢ Null)
null_or_not Null = inl refl
null_or_not (Int n) = inr (λ e. cc)
null_or_not (Truth b) = inr (λ e. cc)
null_or_not (Bytes b) = inr (λ e. cc)
null_or_not (Rows xs) = inr (λ e. cc)
null_or_not (Fields xs) = inr (λ e. cc)
null_or_not (Entry x) = inr (λ e. cc)

-- under one type, rows are equal where they are one tree
equal-rows : (one_type : Type 0) → one_type → (x y : Row) → EqualRows one_type x y ↔ (x ≡ y)
equal-rows one_type one x y = (
  (λ s. elim s [ inl b ↦ b.0 ∙ sym b.1 | inr b ↦ b.3 ]),
  (λ e. elim (null_or_not x) [
    | inl n ↦ inl (n, sym e ∙ n)
    | inr n ↦ inr (n, (λ m. n (e ∙ m)), one, e)
  ]),
)

module _ (xs ys : List Row) (bits : List Bool) (q : Equality xs ys bits) where
  -- a bit is true where the two rows are one tree
  bit-equal : (i : ℕ) → i < length xs → (slice_index_or bits i false ≡ true) ↔ (row xs i ≡ row ys i)
  bit-equal i h =
      let at = q.equal.at_each i h in
      let rows = equal-rows (OneType q.types) q.one_type (row xs i) (row ys i) in
      ((λ t. rows.0 (at.0 t)), (λ e. at.1 (rows.1 e)))

  -- a true bit is that of a row
  row-within : (i : ℕ) → IsTrue (slice_index_or bits i false) → i < length xs
  row-within i t = omega (arith, true-within bits i t, q.equal.size)

pub missing-reflexive : MissingIsReflexive
missing-reflexive xs bits q i h = (bit-equal xs xs bits q i h).1 refl

pub missing-symmetric : MissingIsSymmetric
missing-symmetric xs ys bits turned e q r =
    ext_get_or false turned bits (r.equal.size ∙ e ∙ sym q.equal.size)
    (λ i h.
    let there = bit-equal xs ys bits q i (omega (arith, e, r.equal.size)) in
    let back = bit-equal ys xs turned r i (omega (arith, r.equal.size)) in
    told-same true _ _ back ((λ t. sym (there.0 t)), (λ s. there.1 (sym s))))

pub missing-transitive : MissingIsTransitive
missing-transitive xs ys zs first second both e k q r s i t u =
    let h = row-within xs ys first q i t in
    (bit-equal xs zs both s i h).1
    ((bit-equal xs ys first q i h).0 t ∙ (bit-equal ys zs second r i (omega (arith, e))).0 u)

pub missing-complement : UnequalIsNotEqual
missing-complement types xs ys equal unequal q r =
    ext_get_or false unequal (map not equal) (r.size ∙ sym q.size ∙ sym (length-map equal not))
    (λ i h.
    let within : i < length xs = omega (arith, r.size) in
    told-not _ _ (q.at_each i within) (r.at_each i within)
    ∙ sym (get_or-map not equal i false false (omega (arith, q.size))))
