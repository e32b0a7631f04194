use Rattle.std.proofs.Common.{◌≡◌, ◌∙◌, List, Bool, Option, length, MatchResult, sym, ap₂, subst}
use Rattle.std.proofs.lemmas.Simd.{length-zip2}
use Rattle.std.specs.Simd.Lanes.{zip2}
use Rattle.polars_arrays_bits.specs.Errors.{IsMemory}
use Rattle.polars_compare_leaves.specs.Joining.{Joined, told}
use Rattle.arrow_columns.proofs.Compared.{ok-gives, same-bits, zip2-slots}
use Rattle.arrow_columns.proofs.comparing.join.Goals as goal

pub join_masks-requires-clause-left : goal.join_masks-requires-clause-left
join_masks-requires-clause-left g c =
    let holds = g.E.Comparison.holds c.args.comparison.now in
    let long = ap₂ (λ xs ys. length (zip2 holds xs ys)) c.values.ensures c.values-2.ensures
    ∙ length-zip2 holds c.args.left.now.values c.args.right.now.values (sym c.requires) in
    same-bits c.mask.result c.args.left.now.validity _ (length c.args.left.now.values) c.mask.ensures.mask long c.mask.ensures.bits

pub join_masks-requires-clause-right : goal.join_masks-requires-clause-right
join_masks-requires-clause-right g c =
    let holds = g.E.Comparison.holds c.args.comparison.now in
    let long = ap₂ (λ xs ys. length (zip2 holds xs ys)) c.values.ensures c.values-2.ensures
    ∙ length-zip2 holds c.args.left.now.values c.args.right.now.values (sym c.requires) ∙ sym c.requires in
    same-bits c.mask-2.result c.args.right.now.validity _ (length c.args.right.now.values) c.mask-2.ensures.mask long c.mask-2.ensures.bits

pub returns-clause-joined : goal.returns-clause-joined
returns-clause-joined g c =
    let holds = g.E.Comparison.holds c.args.comparison.now in
    let raw = ap₂ (zip2 holds) c.values.ensures c.values-2.ensures
    ∙ zip2-slots g.T.Number.value holds g.E.RowComparison.rows (g.met.E.RowComparison.rows_law c.args.comparison.now) c.args.left.now.values c.args.right.now.values in
    subst (λ (xs : List Bool). MatchResult c.join_masks.result (Joined (told c.args.relation) c.args.left.now.validity c.args.right.now.validity xs) IsMemory) raw
    (subst (λ (v : Option (List Bool)). MatchResult c.join_masks.result (Joined (told c.args.relation) c.args.left.now.validity v (zip2 holds c.values.result.now c.values-2.result.now)) IsMemory) c.mask-2.ensures.mask
    (subst (λ (v : Option (List Bool)). MatchResult c.join_masks.result (Joined (told c.args.relation) v c.mask-2.result (zip2 holds c.values.result.now c.values-2.result.now)) IsMemory) c.mask.ensures.mask c.join_masks.ensures))

pub returns-clause-count : goal.returns-clause-count
returns-clause-count g c =
    let holds = g.E.Comparison.holds c.args.comparison.now in
    let long = ap₂ (λ xs ys. length (zip2 holds xs ys)) c.values.ensures c.values-2.ensures
    ∙ length-zip2 holds c.args.left.now.values c.args.right.now.values (sym c.requires) in
    ok-gives c.join_masks.result (Joined (told c.args.relation) c.mask.result c.mask-2.result (zip2 holds c.values.result.now c.values-2.result.now)) (λ bits. length bits ≡ length c.args.left.now.values) IsMemory
    (λ bits joined. joined.size ∙ long) c.join_masks.ensures
