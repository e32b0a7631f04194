use Rattle.std.proofs.Common.{◌≡◌, ◌∙◌, ap, ap₂, refl}
use Rattle.std.specs.Simd.Lanes.{zip2}
use Rattle.std.proofs.lemmas.Result.{MatchResult-weaker}
use Rattle.polars_arrays_flat.specs.Row.{Truth}
use Rattle.polars_arrays_flat.specs.Validity.{window}
use Rattle.polars_compare_leaves.proofs.Slots.{windows-put}
use Rattle.polars_compare_leaves.proofs.booleans.compare_truth_windows.Goals as goal

pub returns : goal.returns
returns g c =
    let left : c.window-left.result ≡ window c.args.a c.args.n c.args.left.now.values = c.window-left.ensures ∙ ap (λ xs. window c.args.a c.args.n xs) (c.from_bitmap.ensures ∙ c.values.ensures) in
    let right : c.window-right.result ≡ window c.args.b c.args.n c.args.right.now.values = c.window-right.ensures ∙ ap (λ xs. window c.args.b c.args.n xs) (c.from_bitmap-2.ensures ∙ c.values-2.ensures) in
    MatchResult-weaker c.compare_bits.result c.compare_bits.ensures
    (λ bits e.
    e
    ∙ ap₂ (λ xs ys. zip2 (λ l r. g.E.TruthComparison.rows (Truth l) (Truth r)) xs ys) left right
    ∙ windows-put Truth (λ l r. g.E.TruthComparison.rows (Truth l) (Truth r)) g.E.TruthComparison.rows (λ l r. refl) c.args.n c.args.a c.args.b c.args.left.now.values c.args.right.now.values)
    (λ error m. m)
