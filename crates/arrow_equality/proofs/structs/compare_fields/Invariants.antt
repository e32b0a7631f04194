use Rattle.std.proofs.Common.{◌≡◌, ◌≤◌, length, drop}
use Rattle.arrow_equality.specs.Structs.{AreFieldsCompared}
use Rattle.arrow_equality.proofs.structs.compare_fields.Given as goal

abbrev pub invariant-loop-k : goal.invariant-loop-k
invariant-loop-k g l = record {
  within : l.end ≤ length l.left;
  size : length l.compared.bits ≡ l.fn.rows;
  fields : AreFieldsCompared l.k (drop l.end l.left) (drop l.end l.right) l.compared;
}
