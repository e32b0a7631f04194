-- The results of comparisons, from the kernels' bits of stored rows and the validities.
use Rattle.std.proofs.Common.{◌≡◌, ◌≢◌, ◌<◌, ◌↔◌, ◌∙◌, ◌||◌, not, Bool, true, false, IsTrue, List, Option, Some, None, length, replicate, refl, sym, ap, inl, inr, arith, slice_index_or}
use Rattle.std.specs.Prelude.{if◌then◌else◌, cond}
use Rattle.std.proofs.lemmas.List.{length-replicate, get_or-replicate}
use Rattle.polars_arrays_flat.specs.ArrayRows.{is_null}
use Rattle.polars_arrays_flat.specs.Row.{Row, Null, Truth}
use Rattle.polars_arrays_flat.specs.StoredRows.{row, kept, rows_under}
use Rattle.polars_arrays_flat.specs.Validity.{HasBits, is_present}
use Rattle.polars_compare_leaves.specs.Sameness.{same_row, other_row}
use Rattle.polars_compare_leaves.specs.Equality.{RawEquality, MissingEquality, EqualRows}
use Rattle.polars_compare_leaves.specs.Order.{RawOrder}
use Rattle.polars_tables_operations.specs.declared.operation.ComparisonKind.{ComparisonKind}
use Rattle.polars_tables_operations.specs.Comparing.{if_present, compared, ComparesRows}
use Rattle.polars_tables_operations.specs.Stored.{AreValues, StoresValues}
use Rattle.polars_tables_rows.specs.RowsLaws.{length-rows, row-at}
use Rattle.std.specs.Prelude.{Result, MatchResult}
use Rattle.std.proofs.lemmas.Result.{MatchResult-weaker}
use Rattle.polars_arrays_bits.specs.declared.error.ComputeError.{ComputeError}
use Rattle.polars_arrays_bits.specs.Errors.{IsMemory}
use Rattle.polars_compare_equality.specs.Answers.{Answers}

-- a test that is null where a row is, of two rows that may be masked
tested : (test : Row → Row → Bool) (p q : Bool) (x y : Row) (bit truth : Bool)
    → (IsTrue p → IsTrue q → bit ≡ test x y) → if_present test (kept p x) (kept q y) ≡ Truth truth → bit ≡ truth
tested test true true x y bit truth right e = right refl refl ∙ here (is_null x || is_null y) e where
  here : (b : Bool) → cond b Null (Truth (test x y)) ≡ Truth truth → test x y ≡ truth
  here true f = absurd (cc)
  here false f = cc
tested test false q x y bit truth right e = absurd (cc)
tested test true false x y bit truth right e = absurd (none (is_null x) e) where
  none : (b : Bool) → cond (b || true) Null (Truth (test x Null)) ≡ Truth truth → ⊥
  none true f = cc
  none false f = cc

module _ {A : Type 0} (value_row : A → Row) (values : AreValues value_row) where
  -- a value that is the same as another has the bit that tells so
  told_same : (told : Bool) (x y : A) (bit : Bool) (P : Type 0) → P → (bit ≡ told) ↔ (P × (value_row x ≡ value_row y)) → bit ≡ (if told then same_row (value_row x) (value_row y) else other_row (value_row x) (value_row y))
  told_same told x y bit P p d = by_test (same_row (value_row x) (value_row y)) told bit (values.same x y) d where
    by_test : (s told bit : Bool) → IsTrue s ↔ (value_row x ≡ value_row y) → (bit ≡ told) ↔ (P × (value_row x ≡ value_row y)) → bit ≡ (if told then s else not s)
    by_test true true bit s d = d.1 (p, s.0 refl)
    by_test true false bit s d = d.1 (p, s.0 refl)
    by_test false true true s d = absurd (let t = s.1 (d.0 refl).1 in cc)
    by_test false true false s d = refl
    by_test false false true s d = refl
    by_test false false false s d = absurd (let t = s.1 (d.0 refl).1 in cc)

  -- the same, where either may be masked
  not_null : (x : A) → value_row x ≢ Null
  not_null x e = let f = sym (values.present x) ∙ ap is_null e in cc

  told_missing : (told : Bool) (p q : Bool) (x y : A) (bit : Bool) (P : Type 0) → P → (bit ≡ told) ↔ EqualRows P (kept p (value_row x)) (kept q (value_row y)) → bit ≡ (if told then same_row (kept p (value_row x)) (kept q (value_row y)) else other_row (kept p (value_row x)) (kept q (value_row y)))
  told_missing told true true x y bit P p d =
      told_same told x y bit P p (
        (λ e. elim (d.0 e) [ inl n ↦ absurd (not_null x n.0) | inr r ↦ (r.2, r.3) ]),
        (λ r. d.1 (inr (not_null x, not_null y, r.0, r.1))),
      )
  told_missing told true false x y bit P p d =
      rw (values.right_null x) (apart told bit (λ e. elim (d.0 e) [ inl n ↦ not_null x n.0 | inr r ↦ r.1 refl ])) where
        apart : (told bit : Bool) → (bit ≡ told → ⊥) → bit ≡ (if told then false else not false)
        apart true true n = absurd (n refl)
        apart true false n = refl
        apart false true n = refl
        apart false false n = absurd (n refl)
  told_missing told false true x y bit P p d =
      rw (values.left_null y) (apart told bit (λ e. elim (d.0 e) [ inl n ↦ not_null y n.1 | inr r ↦ r.0 refl ])) where
        apart : (told bit : Bool) → (bit ≡ told → ⊥) → bit ≡ (if told then false else not false)
        apart true true n = absurd (n refl)
        apart true false n = refl
        apart false true n = refl
        apart false false n = absurd (n refl)
  told_missing true false false x y bit P p d = d.1 (inl (refl, refl))
  told_missing false false false x y bit P p d = d.1 (inl (refl, refl))

-- what is known of the rows that two arrays store
pub record Setting {A : Type 0} (value_row : A → Row) (lm rm : Option (List Bool)) (ls rs : List Row) : Type 0 where
  pub values : AreValues value_row
  pub left_bits : HasBits (length ls) lm
  pub right_bits : HasBits (length rs) rm
  pub as_long : length rs ≡ length ls
  pub left_stored : StoresValues value_row ls
  pub right_stored : StoresValues value_row rs

-- a scalar acts as a list of equal rows
pub scalar_setting : {A : Type 0} (value_row : A → Row) (lm : Option (List Bool)) (ls : List Row) (x : A) → AreValues value_row → HasBits (length ls) lm → StoresValues value_row ls → Setting value_row lm None ls (replicate (length ls) (value_row x))
scalar_setting value_row lm ls x v b s = record {
  values = v;
  left_bits = b;
  right_bits = tt;
  as_long = length-replicate (length ls) (value_row x);
  left_stored = s;
  right_stored = record { at_each = λ i h. (x, get_or-replicate (length ls) i (value_row x) Null (rw (length-replicate (length ls) (value_row x)) at h)) };
}

module _ {A : Type 0} (value_row : A → Row) (lm rm : Option (List Bool)) (ls rs : List Row) (given : Setting value_row lm rm ls rs) where
  -- the bits of a test
  from_order : (bits : List Bool) (comparison : ComparisonKind) (test : Row → Row → Bool) → ((x y : Row) → compared comparison x y ≡ if_present test x y) → RawOrder test lm rm ls rs bits → ComparesRows comparison (rows_under lm ls) (rows_under rm rs) bits
  from_order bits comparison test is o =
      let ll = length-rows lm ls given.left_bits in
      record {
        size = o.size ∙ sym ll;
        at_truth = λ i truth h e.
            let below : i < length ls = omega (arith, ll) in
            let f = sym (is (row (rows_under lm ls) i) (row (rows_under rm rs) i)) ∙ e in
            let g = rw (row-at lm ls i given.left_bits below, row-at rm rs i given.right_bits (omega (arith, given.as_long))) at f in
            tested test (is_present lm i) (is_present rm i) (row ls i) (row rs i) (slice_index_or bits i false) truth (o.at_present i below) g;
      }

  -- the bits of raw equality, where `told` is true, and of raw inequality are those of a test
  from_equality : (bits : List Bool) (told : Bool) (P : Type 0) → P → RawEquality told P lm rm ls rs bits → RawOrder (λ x y. if told then same_row x y else other_row x y) lm rm ls rs bits
  from_equality bits told P one_type e = record {
    size = e.size;
    at_present = λ i h p q.
        let x = given.left_stored.at_each i h in
        let y = given.right_stored.at_each i (omega (arith, given.as_long)) in
        let d = rw (x.1, y.1) at (e.at_present i h p q) in
        rw (x.1, y.1) (told_same value_row given.values told x.0 y.0 (slice_index_or bits i false) P one_type d);
  }

  truth_is : (b truth : Bool) → Truth b ≡ Truth truth → b ≡ truth
  truth_is b truth e = cc

  -- the bits of missing equality and inequality
  from_missing : (bits : List Bool) (told : Bool) (P : Type 0) → P → (comparison : ComparisonKind) → ((x y : Row) → compared comparison x y ≡ Truth (if told then same_row x y else other_row x y)) → MissingEquality told P (rows_under lm ls) (rows_under rm rs) bits → ComparesRows comparison (rows_under lm ls) (rows_under rm rs) bits
  from_missing bits told P one_type comparison is m =
      let ll = length-rows lm ls given.left_bits in
      record {
        size = m.size;
        at_truth = λ i truth h e.
            let below : i < length ls = omega (arith, ll) in
            let below_right : i < length rs = omega (arith, given.as_long) in
            let x = given.left_stored.at_each i below in
            let y = given.right_stored.at_each i below_right in
            let left : row (rows_under lm ls) i ≡ kept (is_present lm i) (value_row x.0) = row-at lm ls i given.left_bits below ∙ ap (λ (r : Row). kept (is_present lm i) r) x.1 in
            let right : row (rows_under rm rs) i ≡ kept (is_present rm i) (value_row y.0) = row-at rm rs i given.right_bits below_right ∙ ap (λ (r : Row). kept (is_present rm i) r) y.1 in
            let d = rw (left, right) at (m.at_each i h) in
            let bit = told_missing value_row given.values told (is_present lm i) (is_present rm i) x.0 y.0 (slice_index_or bits i false) P one_type d in
            let f = rw (left, right) at (sym (is (row (rows_under lm ls) i) (row (rows_under rm rs) i)) ∙ e) in
            bit ∙ truth_is _ truth f;
      }

  module _ (r : Result (List Bool) ComputeError) (comparison : ComparisonKind) where
    pub order_result : (test : Row → Row → Bool) → ((x y : Row) → compared comparison x y ≡ if_present test x y) → MatchResult r (RawOrder test lm rm ls rs) IsMemory → MatchResult r (ComparesRows comparison (rows_under lm ls) (rows_under rm rs)) IsMemory
    order_result test is h = MatchResult-weaker r h (λ bits o. from_order bits comparison test is o) (λ e m. m)

    pub equality_result : (told : Bool) (P : Type 0) → P → ((x y : Row) → compared comparison x y ≡ if_present (λ x y. if told then same_row x y else other_row x y) x y) → MatchResult r (RawEquality told P lm rm ls rs) IsMemory → MatchResult r (ComparesRows comparison (rows_under lm ls) (rows_under rm rs)) IsMemory
    equality_result told P one_type is h =
        MatchResult-weaker r h (λ bits e. from_order bits comparison (λ x y. if told then same_row x y else other_row x y) is (from_equality bits told P one_type e)) (λ e m. m)

    pub missing_result : (told : Bool) (P : Type 0) → P → ((x y : Row) → compared comparison x y ≡ Truth (if told then same_row x y else other_row x y)) → MatchResult r (MissingEquality told P (rows_under lm ls) (rows_under rm rs)) IsMemory → MatchResult r (ComparesRows comparison (rows_under lm ls) (rows_under rm rs)) IsMemory
    missing_result told P one_type is h =
        MatchResult-weaker r h (λ bits e. from_missing bits told P one_type comparison is e) (λ e m. m)

-- a kind of array that has broadcasts supports them
pub from_answers : {X : Type 0} (has : Bool) (r : Result X ComputeError) (Q : X → Type 0) → has ≡ true → Answers has r Q → MatchResult r Q IsMemory
from_answers true r Q e h = MatchResult-weaker r h (λ x p. p.1) (λ e m. m)
from_answers false r Q e h = absurd (cc)
