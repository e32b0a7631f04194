use Rattle.std.proofs.Common.{◌≡◌, ◌+◌, ◌-◌, ℕ, List, ◌∷◌, ◌++◌, length, drop, replicate, sym, subst, ap, ◌∙◌, arith, rules}
use Rattle.polars_arrays_views.specs.Views.{GoodView, row_bytes}
use Rattle.polars_arrays_views.proofs.GoodViews.{good_short, row_of_short}
use Rattle.polars_arrays_views.proofs.Padding.{behind}
use Rattle.polars_arrays_views.proofs.view.View.of_short.Goals as goal

pub returns-clause-stored : goal.returns-clause-stored
returns-clause-stored c =
    let xs = c.args.bytes.now in
    let e : length xs ≡ 4 + length xs - 4 = omega arith in
    ap (λ (l : List ℕ). length xs ∷ 0 ∷ 0 ∷ 0 ∷ l)
    (ap (λ (l : List ℕ). l ++ drop (4 + length xs - 4) (replicate 12 0)) c.copy_from_slice.ensures.after ∙ behind (4 + length xs - 4) xs e (omega arith))

pub returns-clause-good : goal.returns-clause-good
returns-clause-good c =
    let xs = c.args.bytes.now in
    λ buffers. subst (GoodView buffers) (sym (returns-clause-stored c)) (good_short buffers xs c.requires (search rules))

pub returns-clause-row : goal.returns-clause-row
returns-clause-row c =
    let xs = c.args.bytes.now in
    λ buffers. ap (row_bytes buffers) (returns-clause-stored c) ∙ row_of_short buffers xs c.requires
