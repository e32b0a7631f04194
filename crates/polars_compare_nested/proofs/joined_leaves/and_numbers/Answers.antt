use Rattle.std.proofs.Common.{length, refl}
use Rattle.polars_compare_nested.proofs.LeafRows.{number-bits}
use Rattle.polars_compare_nested.proofs.joined_leaves.and_numbers.Goals as goal

pub returns : goal.returns
returns g c = record {
  same = _;
  told = number-bits g.T.Number.value c.args.left.now c.args.right.now c.args.a c.args.b (length c.args.bits.now) _ c.requires.left_in c.requires.right_in refl;
  joined = c.and_number_windows.ensures;
}
