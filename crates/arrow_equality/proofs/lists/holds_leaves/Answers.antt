use Rattle.std.proofs.Common.{◌∙◌, arith, refl, sym}
use Rattle.arrow_equality.proofs.ListColumns.{leaf-kind}
use Rattle.arrow_equality.proofs.lists.holds_leaves.Goals as goal

pub returns-in-Some : goal.returns-in-Some
returns-in-Some c told = record {
  name = c.if-not-is_text.ensures.0 refl;
  children = omega (arith, c.if-list-ne1.false);
  leaves = leaf-kind c.in-Some.kind c.args.items.now (sym c.of.ensures ∙ c.in-Some.is) (c.is_leaf.ensures told);
}
