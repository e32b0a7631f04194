use Rattle.std.proofs.Common.{arith}
use Rattle.polars_compare_nested.proofs.LeafSorts.{leaf_first}
use Rattle.polars_compare_nested.proofs.leaf_kernel.LeafKernel.leaf_row_eq.Goals as goal

pub get_bit-requires : goal.get_bit-requires
get_bit-requires g c = omega (arith, c.in_ok-bits.ensures.told.size)

pub returns-clause-told : goal.returns-clause-told
returns-clause-told g c =
    leaf_first g.Self.LeafKernel.agree c.args.left.now c.args.a c.args.right.now c.args.b c.in_ok-bits.bits _ c.in_ok-bits.ensures.told c.get_bit.ensures

pub returns-clause-counted : goal.returns-clause-counted
returns-clause-counted g c = c.in_ok-bits.ensures.counted

pub returns-clause-kept : goal.returns-clause-kept
returns-clause-kept g c = c.in_ok-bits.ensures.kept
