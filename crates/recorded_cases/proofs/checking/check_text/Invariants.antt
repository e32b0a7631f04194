use Rattle.recorded_text.specs.Cases.{HasGoodArrays}
use Rattle.recorded_cases.proofs.checking.check_text.Given as goal

abbrev pub invariant-loop-line : goal.invariant-loop-line
invariant-loop-line g l = HasGoodArrays l.store
