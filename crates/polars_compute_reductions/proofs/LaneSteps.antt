-- Folds in lanes: the fold of all lanes is that of the rows so far.
use Rattle.std.proofs.Common.{◌≡◌, ◌<◌, ◌+◌, ◌∙◌, ℕ, zero, suc, List, [], ◌∷◌, length, take, get_or, replicate, refl, sym, ap, ap₂, arith}
use Rattle.std.specs.Prelude.{ℤ, set}
use Rattle.polars_arrays_flat.specs.Row.{Row}
use Rattle.polars_arrays_flat.specs.StoredRows.{row, number_slots}
use Rattle.polars_compute_reductions.specs.Folds.{Folds, folded, number_or}
use Rattle.polars_compute_reductions.proofs.FoldSteps.{fold_more, folded-neutral}

module _ (joined : ℤ → ℤ → ℤ) (neutral : ℤ) (law : Folds joined neutral) where
  -- no rows are joined
  pub lanes_begin : (lanes : List Row) → folded joined neutral lanes ≡ joined (folded joined neutral lanes) neutral
  lanes_begin lanes = sym (law.any_order (folded joined neutral lanes) neutral ∙ folded-neutral joined neutral law lanes)

  -- a row more
  pub lanes_more : (rows : List Row) (i : ℕ) (before now add next : ℤ) → i < length rows → now ≡ joined before (folded joined neutral (take i rows)) → add ≡ number_or neutral (row rows i) → next ≡ joined now add → next ≡ joined before (folded joined neutral (take (i + 1) rows))
  lanes_more rows i before now add next h e a n =
      n
      ∙ ap (λ (t : ℤ). joined t add) e
      ∙ law.any_groups before (folded joined neutral (take i rows)) add
      ∙ ap (joined before) (fold_more joined neutral law rows i (folded joined neutral (take i rows)) add (joined (folded joined neutral (take i rows)) add) h refl a refl)

  module _ {A : Type 0} (value : A → ℤ) where
    -- a number joined to one lane is joined to all
    pub one_lane : (xs : List A) (i : ℕ) (x y : A) (add : ℤ) → i < length xs → x ≡ get_or xs i x → value y ≡ joined (value x) add → folded joined neutral (number_slots value (set xs i y)) ≡ joined (folded joined neutral (number_slots value xs)) add
    one_lane [] i x y add h e f = absurd (omega arith)
    one_lane (first ∷ xs) zero x y add h e f =
        let rest : ℤ = folded joined neutral (number_slots value xs) in
        ap (λ (t : ℤ). joined t rest) (f ∙ ap (λ (z : A). joined (value z) add) e)
        ∙ law.any_groups (value first) add rest
        ∙ ap (joined (value first)) (law.any_order add rest)
        ∙ sym (law.any_groups (value first) rest add)
    one_lane (first ∷ xs) (suc i) x y add h e f =
        let rest : ℤ = folded joined neutral (number_slots value xs) in
        ap (joined (value first)) (one_lane xs i x y add (omega arith) e f)
        ∙ sym (law.any_groups (value first) rest add)

    -- lanes that all begin with the neutral number
    pub new_lanes : (n : ℕ) (x : A) → value x ≡ neutral → folded joined neutral (number_slots value (replicate n x)) ≡ neutral
    new_lanes zero x e = refl
    new_lanes (suc n) x e = ap₂ joined e (new_lanes n x e) ∙ law.any_times
