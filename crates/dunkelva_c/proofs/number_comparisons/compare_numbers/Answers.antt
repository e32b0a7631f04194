use Rattle.std.proofs.Common.{◌∙◌}
use Rattle.std.specs.Int.{w128}
use Rattle.std.proofs.lemmas.Int.{to_z-of_z}
use Rattle.arrow_columns.specs.Comparing.{holds_of}
use Rattle.arrow_parts.specs.Lent.{present_in}
use Rattle.dunkelva_c.proofs.Lent.{compared_bits}
use Rattle.dunkelva_c.proofs.number_comparisons.compare_numbers.Goals as goal

pub returns-clause-bits : goal.returns-clause-bits
returns-clause-bits g c =
    compared_bits g.T.Number.value (holds_of c.args.test) c.in_ok-bits.bits (g.T.Number.value c.in-Some.right) c.args.number c.in_ok-left.left.validity (present_in c.args.part.now) c.in_ok-left.left.values c.args.values.now
    c.in_ok-bits.ensures.bits (c.in-Some.ensures.number ∙ to_z-of_z w128 c.args.number c.ranges.number) c.in_ok-left.ensures.made.validity c.in_ok-left.ensures.made.values
