use Rattle.std.proofs.Common.{◌≡◌, ◌∙◌, arith}
use Rattle.polars_arrays_nested.specs.declared.any_array.AnyArray.{Dictionary}
use Rattle.polars_compare_nested.proofs.RawRows.{raw_adds, raw_none}
use Rattle.polars_compare_nested.proofs.TallyAdds.{tally-adds}
use Rattle.polars_compare_nested.proofs.leaf_entries.eq_leaf_entries.Goals as goal

pub loop-done-init : goal.loop-done-init
loop-done-init g c = (
  omega arith,
  rw c.in_ok-bits.ensures.empty (raw_none _ _ _ _ _),
  omega arith,
  omega arith,
  omega (arith, c.in_ok-bits.ensures.room),
)

pub loop-done-preserved : goal.loop-done-preserved
loop-done-preserved g c =
    let next = c.in_ok-push_block.ensures in
    let adds = tally-adds (Dictionary c.args.left.now) (Dictionary c.args.right.now) c.args.a c.args.b c.loop-done.done c.min-count.result in (
      omega (arith, c.min-count.ensures),
      raw_adds _ _ _ _ _ _ _ _ _ c.loop-done.invariant.1 next.told,
      next.counted ∙ omega (arith, c.loop-done.invariant.2, adds),
      omega (arith, next.kept, c.loop-done.invariant.3),
      omega (arith, next.room, c.min-count.ensures, c.loop-done.invariant.4),
    )

pub returns : goal.returns
returns g c =
    let all : c.loop-done.done ≡ c.args.n = omega (arith, c.loop-done.invariant.0) in
    record {
      told = rw (c.freeze.ensures, ← all) c.loop-done.invariant.1;
      counted = rw (← all) c.loop-done.invariant.2;
      kept = c.loop-done.invariant.3;
    }
