use Rattle.std.proofs.Common.{arith}
use Rattle.polars_compare_nested.proofs.Columns.{struct_count, struct_types}
use Rattle.polars_compare_nested.proofs.structs.column_pair.Goals as goal

pub column-requires-2 : goal.column-requires-2
column-requires-2 c =
    omega (arith, struct_count c.args.left.now c.args.right.now c.requires.left_good c.requires.right_good c.requires.one_type, c.requires.within)

pub returns-clause-one_type : goal.returns-clause-one_type
returns-clause-one_type c =
    struct_types c.args.left.now c.args.right.now c.args.i c.column.result.now c.column-2.result.now c.requires.left_good c.requires.right_good c.requires.one_type c.requires.within c.column.ensures.column c.column-2.ensures.column

pub returns-clause-as_many : goal.returns-clause-as_many
returns-clause-as_many c =
    struct_count c.args.left.now c.args.right.now c.requires.left_good c.requires.right_good c.requires.one_type
