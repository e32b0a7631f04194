use Rattle.diff_tolerances.specs.Partners.{AreBeside}
use Rattle.diff_tolerances.proofs.partners.rows_beside.Given as goal

abbrev pub invariant-loop-k : goal.invariant-loop-k
invariant-loop-k l = AreBeside l.left_rows l.right_rows l.count l.k l.found.items
