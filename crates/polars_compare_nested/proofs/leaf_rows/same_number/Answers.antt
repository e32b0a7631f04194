use Rattle.polars_compare_nested.proofs.LeafRows.{number-bit}
use Rattle.polars_compare_nested.proofs.leaf_rows.same_number.Goals as goal

pub returns : goal.returns
returns g c =
    number-bit g.T.Number.value c.args.left.now c.args.right.now c.args.a c.args.b c.index-left-a.result c.index-right-b.result _ c.requires.left_in c.requires.right_in (rw c.values-left.ensures at c.index-left-a.is) (rw c.values-right.ensures at c.index-right-b.is) c.compare.ensures
