-- What columns are counted, summed and reduced to, and which rows are their extremes, depends on their rows alone.
use Rattle.std.proofs.Common.{◌≡◌, ◌<◌, ◌∙◌, ℕ, Bool, true, false, List, map, refl, sym, ap, ap₂, subst, arith}
use Rattle.std.specs.Prelude.{ℤ, Option, Some, None, Result, Ok, Err}
use Rattle.std.specs.Option.{option_map}
use Rattle.polars_arrays_bits.specs.declared.error.ComputeError.{ComputeError}
use Rattle.polars_arrays_flat.specs.Kind.{Kind}
use Rattle.polars_arrays_flat.specs.Row.{Row}
use Rattle.polars_arrays_flat.specs.StoredRows.{row}
use Rattle.polars_arrays_nested.specs.AnyRows.{rows as any_rows}
use Rattle.polars_arrays_nested.specs.Types.{type_of}
use Rattle.polars_arrays_numbers.specs.Wrapping.{wrapped}
use Rattle.polars_compare.specs.RowsLaws.{rows_of}
use Rattle.polars_compare_leaves.specs.Order.{row_less, row_greater}
use Rattle.polars_compare_extremes.specs.Extremes.{FindsBest, IsBest, NonePresent}
use Rattle.polars_compare_extremes.specs.Scalars.{AnswersKind, AreExtremes, scalar_kind, scalar_row}
use Rattle.polars_compare_extremes.specs.declared.scalar.AnyScalar.{AnyScalar}
use Rattle.polars_compute.specs.ReductionLaws.{AnyBothByRows, AnyExtremesByRows, AreBothOf, BothByRows, CountsByRows, ExtremesByRows, IsExtremeOf, IsScalarOf, ReductionsByRows, SumsByRows, both, scalar_told, told}
use Rattle.polars_compute_reductions.specs.Bitwise.{counted, reduced}
use Rattle.polars_compute_reductions.specs.Sum.{total}

pub sums-by_rows : (least : ℤ) (width : ℕ) → SumsByRows least width
sums-by_rows least width a a' sum sum' same is is' =
    is ∙ ap (λ (rows : List Row). wrapped least width (total rows)) same ∙ sym is'

pub counts-by_rows : (width : ℕ) → CountsByRows width
counts-by_rows width count a a' counts counts' same is is' =
    is ∙ ap (λ (rows : List Row). map (counted count width) rows) same ∙ sym is'

pub reductions-by_rows : (width : ℕ) → ReductionsByRows width
reductions-by_rows width test a a' bits bits' same is is' = is ∙ ap (reduced test width) same ∙ sym is'

same-place : (p q : ℕ) → (p < q → ⊥) → (q < p → ⊥) → p ≡ q
same-place p q one two = grind arith

module _ (better : Row → Row → Bool) (rows : List Row) where
  -- of two best rows none stands before the other: it would be worse, and no row is better
  not-before : (p q : ℕ) → IsBest better rows p → IsBest better rows q → p < q → ⊥
  not-before p q b c h =
      let is : better (row rows q) (row rows p) ≡ true = c.first p h b.present in
      let not : better (row rows q) (row rows p) ≡ false = b.best q c.within c.present in
      cc

  one-best : (x y : Row) → FindsBest better rows x → FindsBest better rows y → x ≡ y
  one-best x y f g =
      let same : f.place ≡ g.place = same-place f.place g.place (not-before f.place g.place f.is_best g.is_best) (not-before g.place f.place g.is_best f.is_best) in
      f.is_row ∙ ap (row rows) same ∙ sym g.is_row

  -- where a best row was found some row is present
  not-none : (x : Row) → FindsBest better rows x → NonePresent rows → ⊥
  not-none x f none = f.is_best.present (none f.place f.is_best.within)

module _ {A : Type 0} (put : A → Row) (rows : List Row) where
  one-extreme : (better : Row → Row → Bool) (found found' : Option A) → IsExtremeOf better put rows found → IsExtremeOf better put rows found' → option_map put found ≡ option_map put found'
  one-extreme better None None e f = refl
  one-extreme better None (Some y) e f = absurd (not-none better rows (put y) f e)
  one-extreme better (Some x) None e f = absurd (not-none better rows (put x) e f)
  one-extreme better (Some x) (Some y) e f = ap (λ (r : Row). Some r) (one-best better rows (put x) (put y) e f)

  one-pair : (found found' : Option (A × A)) → AreBothOf put rows found → AreBothOf put rows found' → option_map (both put) found ≡ option_map (both put) found'
  one-pair None None e f = refl
  one-pair None (Some y) e f = absurd (not-none row_less rows (put y.0) f.0 e)
  one-pair (Some x) None e f = absurd (not-none row_less rows (put x.0) e.0 f)
  one-pair (Some x) (Some y) e f =
      ap₂ (λ (r s : Row). Some (r, s)) (one-best row_less rows (put x.0) (put y.0) e.0 f.0) (one-best row_greater rows (put x.1) (put y.1) e.1 f.1)

pub extremes-by_rows : {A : Type 0} (put : A → Row) → ExtremesByRows put
extremes-by_rows put better a a' found found' same is is' =
    one-extreme put (rows_of a) better found found' is (subst (λ (rows : List Row). IsExtremeOf better put rows found') (sym same) is')

pub both-by_rows : {A : Type 0} (put : A → Row) → BothByRows put
both-by_rows put a a' found found' same is is' =
    one-pair put (rows_of a) found found' is (subst (λ (rows : List Row). AreBothOf put rows found') (sym same) is')

-- ---- arrays of any kind
module _ {A B : Type 0} (kind : Kind) (P : Option A → Type 0) (read : A → B) (one : (found found' : Option A) → P found → P found' → option_map read found ≡ option_map read found') where
  one-answer : (result result' : Result (Option A) ComputeError) → AnswersKind kind result P → AnswersKind kind result' P → told read result ≡ told read result'
  one-answer (Ok x) (Ok y) e f = ap (λ (z : Option B). Ok z) (one x y e.1 f.1)
  one-answer (Ok x) (Err y) e f = cc
  one-answer (Err x) (Ok y) e f = cc
  one-answer (Err x) (Err y) e f = ap (λ (z : ComputeError). Err z) (e.1 ∙ sym f.1)

module _ (kind : Kind) (rows : List Row) where
  one-told : (x y : AnyScalar) → scalar_kind x ≡ kind → scalar_kind y ≡ kind → scalar_row x ≡ scalar_row y → scalar_told x ≡ scalar_told y
  one-told x y e f g = ap₂ (λ (k : Kind) (r : Row). (k, r)) (e ∙ sym f) g

  one-scalar : (better : Row → Row → Bool) (found found' : Option AnyScalar) → IsScalarOf better kind rows found → IsScalarOf better kind rows found' → option_map scalar_told found ≡ option_map scalar_told found'
  one-scalar better None None e f = refl
  one-scalar better None (Some y) e f = absurd (not-none better rows (scalar_row y) f.1 e)
  one-scalar better (Some x) None e f = absurd (not-none better rows (scalar_row x) e.1 f)
  one-scalar better (Some x) (Some y) e f =
      ap (λ (t : Kind × Row). Some t) (one-told x y e.0 f.0 (one-best better rows (scalar_row x) (scalar_row y) e.1 f.1))

  two-scalars : (found found' : Option (AnyScalar × AnyScalar)) → AreExtremes kind rows found → AreExtremes kind rows found' → option_map (both scalar_told) found ≡ option_map (both scalar_told) found'
  two-scalars None None e f = refl
  two-scalars None (Some y) e f = absurd (not-none row_less rows (scalar_row y.0) f.0.1 e)
  two-scalars (Some x) None e f = absurd (not-none row_less rows (scalar_row x.0) e.0.1 f)
  two-scalars (Some x) (Some y) e f =
      ap₂ (λ (t u : Kind × Row). Some (t, u))
      (one-told x.0 y.0 e.0.0 f.0.0 (one-best row_less rows (scalar_row x.0) (scalar_row y.0) e.0.1 f.0.1))
      (one-told x.1 y.1 e.1.0 f.1.0 (one-best row_greater rows (scalar_row x.1) (scalar_row y.1) e.1.1 f.1.1))

pub any_extremes-by_rows : AnyExtremesByRows
any_extremes-by_rows better a a' result result' one_type same is is' =
    one-answer (type_of a) (IsScalarOf better (type_of a) (any_rows a)) scalar_told (one-scalar (type_of a) (any_rows a) better) result result' is
    (subst (λ (kind : Kind). AnswersKind kind result' (IsScalarOf better kind (any_rows a))) (sym one_type)
    (subst (λ (rows : List Row). AnswersKind (type_of a') result' (IsScalarOf better (type_of a') rows)) (sym same) is'))

pub any_both-by_rows : AnyBothByRows
any_both-by_rows a a' result result' one_type same is is' =
    one-answer (type_of a) (AreExtremes (type_of a) (any_rows a)) (both scalar_told) (two-scalars (type_of a) (any_rows a)) result result' is
    (subst (λ (kind : Kind). AnswersKind kind result' (AreExtremes kind (any_rows a))) (sym one_type)
    (subst (λ (rows : List Row). AnswersKind (type_of a') result' (AreExtremes (type_of a') rows)) (sym same) is'))
