use Rattle.arrow_equality.proofs.Fields.{one-name, some-parts}
use Rattle.arrow_equality.proofs.structs.have_one_name.Goals as goal

pub returns-then-left-lt-LONG_NAME : goal.returns-then-left-lt-LONG_NAME
returns-then-left-lt-LONG_NAME c told =
    let some = some-parts c.args.left.now c.is_empty.result c.is_empty.ensures c.if-is_empty.false in
    let other = some-parts c.args.right.now c.is_empty-else-is_empty.result c.is_empty-else-is_empty.ensures c.if-is_empty-2.false in
    one-name c.args.left.now c.args.right.now _ _ some other c.if-left-lt-LONG_NAME.true (c.same_bytes.ensures told)
