use Rattle.std.proofs.Common.{◌∙◌, arith}
use Rattle.polars_arrays_nested.specs.declared.any_array.AnyArray.{Dictionary}
use Rattle.polars_compare_nested.proofs.RawRows.{adds_more, adds_none, adds_one}
use Rattle.polars_compare_nested.proofs.TallyAdds.{tally-adds}
use Rattle.polars_compare_nested.proofs.leaf_entries.push_block.Goals as goal

pub loop-i-init : goal.loop-i-init
loop-i-init g c = (adds_none _ _ _ _ _ _, omega arith, omega arith, omega arith)

pub equal_row-requires : goal.equal_row-requires
equal_row-requires g c =
    rw (c.read-keys.ensures.array, c.read-keys.ensures.at, c.read-keys.ensures.count, c.read-others.ensures.array, c.read-others.ensures.at, c.read-others.ensures.count)
    (record {
      leaves = c.requires.leaves;
      left_in = c.loop-i-test.true;
      right_in = c.loop-i-test.true;
      windows = record {
        left_good = c.requires.windows.left_good;
        right_good = c.requires.windows.right_good;
        one_type = c.requires.windows.one_type;
        left_in = omega (arith, c.requires.windows.left_in, c.loop-i-test.true);
        right_in = omega (arith, c.requires.windows.right_in, c.loop-i-test.true);
      };
    })

pub loop-i-preserved : goal.loop-i-preserved
loop-i-preserved g c =
    let same = c.in_ok-same.ensures in
    let told = rw (c.read-keys.ensures.array, c.read-keys.ensures.at, c.read-others.ensures.array, c.read-others.ensures.at) at same.told in
    let counted = rw (c.read-keys.ensures.array, c.read-keys.ensures.at, c.read-others.ensures.array, c.read-others.ensures.at) at same.counted in
    let adds = tally-adds (Dictionary c.args.left.now) (Dictionary c.args.right.now) c.args.a c.args.b c.loop-i.i 1 in
    rw c.push_reserved.ensures (
      adds_more _ _ _ _ _ _ _ _ _ _ c.loop-i.invariant.0 (adds_one _ _ _ _ _ _ _ told),
      counted ∙ omega (arith, c.loop-i.invariant.1, adds),
      omega (arith, same.kept, c.loop-i.invariant.2),
      omega (arith, c.loop-i.invariant.3),
    )
