use Rattle.std.proofs.Common.{rules}
use Rattle.arrow_equality.specs.Structs.{IsFieldCompared}
use Rattle.arrow_equality.proofs.Fields.{found-added}
use Rattle.arrow_equality.proofs.structs.add_field.Goals as goal

pub returns-in-Some-clause-added : goal.returns-in-Some-clause-added
returns-in-Some-clause-added g c =
    let first : IsFieldCompared c.args.left.now c.args.right.now c.in-Some.field = search rules in
    found-added c.args.left.now c.args.right.now c.in-Some.field c.args.rest c.and_fields.result first c.and_fields.ensures.both
