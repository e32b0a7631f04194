use Rattle.std.proofs.Common.{arith, drop, length, rules}
use Rattle.arrow_equality.specs.Structs.{AreFieldsCompared}
use Rattle.arrow_equality.proofs.Fields.{some-parts}
use Rattle.arrow_equality.proofs.StructColumns.{found-good-structs, found-structs}
use Rattle.arrow_equality.proofs.structs.compare_structs.Goals as goal

pub returns-in-Some-clause-compared : goal.returns-in-Some-clause-compared
returns-in-Some-clause-compared g c =
    let starts = c.in_ok-starts.starts in
    let k = length starts.items in
    let some = some-parts c.args.left.now c.is_empty.result c.is_empty.ensures c.if-is_empty.false in
    let one : AreFieldsCompared k (drop 1 c.args.left.now) (drop 1 c.args.right.now) c.in-Some.fields = search rules in
    found-structs c.law_tally.ensures.struct_tally c.args.left.now c.args.right.now _ _ k c.in-Some.fields c.join_fields.result some (omega (arith, some, c.if-left-right.false)) (c.are_structs.ensures c.if-not-are_structs.false) one (search rules) (omega (arith, c.if-len-left.false, c.len.ensures)) (omega (arith, starts.ok.0, starts.ok.1, starts.small)) c.join_fields.ensures.joined

pub returns-in-Some-clause-good : goal.returns-in-Some-clause-good
returns-in-Some-clause-good g c =
    let starts = c.in_ok-starts.starts in
    let k = length starts.items in
    let some = some-parts c.args.left.now c.is_empty.result c.is_empty.ensures c.if-is_empty.false in
    let one : AreFieldsCompared k (drop 1 c.args.left.now) (drop 1 c.args.right.now) c.in-Some.fields = search rules in
    found-good-structs c.law_tally.ensures.struct_tally c.args.left.now c.args.right.now _ _ k c.in-Some.fields c.join_fields.result some (omega (arith, some, c.if-left-right.false)) (c.are_structs.ensures c.if-not-are_structs.false) one (search rules) (omega (arith, c.if-len-left.false, c.len.ensures)) (omega (arith, starts.ok.0, starts.ok.1, starts.small)) c.join_fields.ensures.joined
