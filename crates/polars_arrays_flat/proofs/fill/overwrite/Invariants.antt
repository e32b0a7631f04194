use Rattle.std.proofs.Common.{◌≡◌, replicate, take}
use Rattle.polars_arrays_flat.proofs.fill.overwrite.Given as goal

abbrev pub invariant-loop-element : goal.invariant-loop-element
invariant-loop-element g l = take l.element-index l.elements ≡ replicate l.element-index l.value
