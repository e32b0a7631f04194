use Rattle.polars_compare_nested.proofs.LeafSorts.{leaf_case}
use Rattle.polars_compare_nested.proofs.few_leaves.has_leaves.Goals as goal

pub returns-in_default : goal.returns-in_default
returns-in_default c _ =
    leaf_case c.args.array.now c.in_default.not-Null c.in_default.not-List c.in_default.not-FixedSizeList c.in_default.not-Struct c.in_default.not-Dictionary
