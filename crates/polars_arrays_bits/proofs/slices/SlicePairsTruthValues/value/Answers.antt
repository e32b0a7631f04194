use Rattle.std.proofs.Common.{arith}
use Rattle.polars_arrays_bits.proofs.Pairs.{left_place, right_place, pair_at}
use Rattle.polars_arrays_bits.proofs.slices.SlicePairsTruthValues.value.Goals as goal

pub bounds-left-i : goal.bounds-left-i
bounds-left-i g c = left_place _ _ _ _ c.requires

pub bounds-right-i : goal.bounds-right-i
bounds-right-i g c = right_place _ _ _ _ c.requires

pub offset_bounds-left-i : goal.offset_bounds-left-i
offset_bounds-left-i g c = omega (arith, left_place _ _ _ _ c.requires)

pub offset_bounds-right-i : goal.offset_bounds-right-i
offset_bounds-right-i g c = omega (arith, right_place _ _ _ _ c.requires)

pub returns : goal.returns
returns g c = pair_at _ _ _ _ _ _ _ c.requires c.index-left-i.is c.index-right-i.is c.compare.ensures
