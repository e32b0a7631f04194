use Rattle.std.proofs.Common.{◌∙◌, List, Bool, Option, ℕ, length, MatchResult, sym, ap₂, subst}
use Rattle.std.specs.Simd.Lanes.{zip2}
use Rattle.polars_arrays_bits.specs.Errors.{IsMemory}
use Rattle.polars_arrays_flat.specs.Row.{Int}
use Rattle.polars_arrays_flat.specs.Validity.{HasBits}
use Rattle.polars_compare_leaves.specs.Joining.{Joined, told}
use Rattle.polars_compare_leaves.proofs.JoinedBits.{length-zip2}
use Rattle.polars_compare_leaves.proofs.Slots.{zip2-put}
use Rattle.polars_compare_leaves.proofs.numbers.join_numbers.Goals as goal

pub join_masks-requires-clause-left : goal.join_masks-requires-clause-left
join_masks-requires-clause-left g c =
    let long = ap₂ (λ xs ys. length (zip2 (g.E.Comparison.holds c.args.comparison.now) xs ys)) c.values.ensures c.values-2.ensures
    ∙ length-zip2 (g.E.Comparison.holds c.args.comparison.now) c.args.left.now.values c.args.right.now.values c.requires.one_length in
    subst (λ (v : Option (List Bool)). HasBits (length (zip2 (g.E.Comparison.holds c.args.comparison.now) c.values.result.now c.values-2.result.now)) v) (sym c.bits.ensures) (subst (λ (n : ℕ). HasBits n c.args.left_mask.now) (sym long) c.requires.left_bits)

pub join_masks-requires-clause-right : goal.join_masks-requires-clause-right
join_masks-requires-clause-right g c =
    let long = ap₂ (λ xs ys. length (zip2 (g.E.Comparison.holds c.args.comparison.now) xs ys)) c.values.ensures c.values-2.ensures
    ∙ length-zip2 (g.E.Comparison.holds c.args.comparison.now) c.args.left.now.values c.args.right.now.values c.requires.one_length in
    subst (λ (v : Option (List Bool)). HasBits (length (zip2 (g.E.Comparison.holds c.args.comparison.now) c.values.result.now c.values-2.result.now)) v) (sym c.bits-2.ensures) (subst (λ (n : ℕ). HasBits n c.args.right_mask.now) (sym long) c.requires.right_bits)

pub returns : goal.returns
returns g c =
    let raw = ap₂ (zip2 (g.E.Comparison.holds c.args.comparison.now)) c.values.ensures c.values-2.ensures
    ∙ zip2-put (λ x. Int (g.T.Number.value x)) (g.E.Comparison.holds c.args.comparison.now) g.E.RowComparison.rows (g.met.E.RowComparison.rows_law c.args.comparison.now) c.args.left.now.values c.args.right.now.values in
    subst (λ (xs : List Bool). MatchResult c.join_masks.result (Joined (told c.args.relation) c.args.left_mask.now c.args.right_mask.now xs) IsMemory) raw (rw (c.bits.ensures, c.bits-2.ensures) at c.join_masks.ensures)
