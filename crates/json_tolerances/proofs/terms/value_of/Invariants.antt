use Rattle.std.proofs.Common.{◌≡◌, ◌^◌, ◌<◌, ◌++◌, take}
use Rattle.std.specs.Str.Parse.{digits_value}
use Rattle.json_tolerances.proofs.terms.value_of.Given as goal

abbrev pub invariant-loop-i : goal.invariant-loop-i
invariant-loop-i l = (l.value ≡ digits_value 10 (take l.i (l.front ++ l.back))) × (l.value < 10 ^ 18)
