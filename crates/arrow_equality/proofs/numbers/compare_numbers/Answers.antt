use Rattle.std.proofs.Common.{◌∙◌}
use Rattle.std.proofs.lemmas.Simd.{length-zip2}
use Rattle.std.specs.Ordering.{int_eq}
use Rattle.arrow_equality.proofs.numbers.compare_numbers.Goals as goal

pub compare_joined-requires-clause-left : goal.compare_joined-requires-clause-left
compare_joined-requires-clause-left g c =
    let good = c.are_part_numbers.ensures c.if-not-are_part_numbers.false in
    length-zip2 (λ l r. int_eq (g.T.Number.value l) (g.T.Number.value r)) c.args.left_values.now c.args.right_values.now c.if-left_values-right_values.false ∙ good.count

pub compare_joined-requires-clause-right : goal.compare_joined-requires-clause-right
compare_joined-requires-clause-right g c =
    let good = c.are_part_numbers-else-not-are_part_numbers.ensures c.if-not-are_part_numbers-2.false in
    length-zip2 (λ l r. int_eq (g.T.Number.value l) (g.T.Number.value r)) c.args.left_values.now c.args.right_values.now c.if-left_values-right_values.false ∙ c.if-left_values-right_values.false ∙ good.count
