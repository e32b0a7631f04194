use Rattle.polars_compare_nested.proofs.LeafRows.{byte-bit}
use Rattle.polars_compare_nested.proofs.leaf_rows.same_bytes.Goals as goal

pub returns : goal.returns
returns g c =
    byte-bit _ _ _ _ c.args.a c.args.b _ c.requires.left_in c.requires.right_in (rw (c.bytes_on-n.ensures.string, c.bytes_on-m.ensures.string) at c.compare_beginnings.ensures)
