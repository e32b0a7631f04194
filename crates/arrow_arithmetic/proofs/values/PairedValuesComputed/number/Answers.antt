use Rattle.std.proofs.Common.{arith}
use Rattle.arrow_arithmetic.proofs.Paired.{paired-at, paired-left, paired-right}
use Rattle.arrow_arithmetic.proofs.values.PairedValuesComputed.number.Goals as goal

pub bounds-left-i : goal.bounds-left-i
bounds-left-i g c = paired-left _ _ _ _ c.requires

pub bounds-right-i : goal.bounds-right-i
bounds-right-i g c = paired-right _ _ _ _ c.requires

pub offset_bounds-left-i : goal.offset_bounds-left-i
offset_bounds-left-i g c = omega (arith, paired-left _ _ _ _ c.requires)

pub offset_bounds-right-i : goal.offset_bounds-right-i
offset_bounds-right-i g c = omega (arith, paired-right _ _ _ _ c.requires)

pub returns : goal.returns
returns g c = paired-at _ _ _ _ _ _ _ c.requires c.index-left-i.is c.index-right-i.is c.apply.ensures
