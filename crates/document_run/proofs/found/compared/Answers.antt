use Rattle.document_run.proofs.SideLemmas.{is_keyed}
use Rattle.document_run.proofs.found.compared.Goals as goal

pub test_keys-requires-clause-left : goal.test_keys-requires-clause-left
test_keys-requires-clause-left c = rw (c.deref.ensures.value, c.in_ok-columns.ensures) (is_keyed c.args.options.now c.args.sides.now.left c.requires.left)

pub test_keys-requires-clause-right : goal.test_keys-requires-clause-right
test_keys-requires-clause-right c = rw (c.deref.ensures.value, c.in_ok-columns.ensures) (is_keyed c.args.options.now c.args.sides.now.right c.requires.right)

pub compare_tables-requires-clause-columns : goal.compare_tables-requires-clause-columns
compare_tables-requires-clause-columns c = rw (c.deref-2.ensures.value, c.in_ok-columns.ensures) (is_keyed c.args.options.now c.args.sides.now.left c.requires.left).columns_within
