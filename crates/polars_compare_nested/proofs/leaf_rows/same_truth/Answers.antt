use Rattle.std.proofs.Common.{refl}
use Rattle.polars_compare_nested.proofs.LeafRows.{truth-bit}
use Rattle.polars_compare_nested.proofs.leaf_rows.same_truth.Goals as goal

pub returns : goal.returns
returns c =
    truth-bit c.args.left.now c.args.right.now c.args.a c.args.b c.get_bit-x.result c.get_bit-y.result _ (rw c.values-left.ensures at c.get_bit-x.ensures) (rw c.values-right.ensures at c.get_bit-y.ensures) refl
