use Rattle.std.proofs.Common.{refl, inl}
use Rattle.diff_merge.proofs.OrderLemmas.{equal_key, greater_key}
use Rattle.diff_merge.proofs.cursor.test_order.Goals as goal

pub returns-then-unique : goal.returns-then-unique
returns-then-unique c = (refl, c.if-unique.true, equal_key c.args.before.now c.args.key.now c.cmp.result c.cmp.ensures c.in-Equal.is)

pub returns-else-unique : goal.returns-else-unique
returns-else-unique c = inl (c.if-unique.false, equal_key c.args.before.now c.args.key.now c.cmp.result c.cmp.ensures c.in-Equal.is)

pub returns-in-Greater : goal.returns-in-Greater
returns-in-Greater c = (refl, greater_key c.args.before.now c.args.key.now c.cmp.result c.cmp.ensures c.in-Greater.is)
