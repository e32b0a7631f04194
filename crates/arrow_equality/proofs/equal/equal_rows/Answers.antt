use Rattle.std.specs.Prelude.{length}
use Rattle.std.proofs.lemmas.Result.{err_from_is_err_and}
use Rattle.arrow_parts.specs.Written.{AreWritten}
use Rattle.arrow_arrays.specs.Columns.{rows_of_parts}
use Rattle.arrow_equality.specs.Equal.{AreEqualIn}
use Rattle.arrow_equality.proofs.Comparisons.{comparison-refused, if-ok, room-refused, rows-written}
use Rattle.arrow_equality.proofs.equal.equal_rows.Goals as goal

pub returns-clause-same : goal.returns-clause-same
returns-clause-same c =
    if-ok c.write.result (AreWritten c.in_ok-compared.compared.bits c.write.new.out) (AreEqualIn c.args.left.now c.args.right.now c.write.new.out) (rows-written (rows_of_parts c.args.left.now) (rows_of_parts c.args.right.now) c.in_ok-compared.compared c.write.new.out c.in_ok-compared.ensures.compared) c.write.ensures.bits

pub returns-clause-refused : goal.returns-clause-refused
returns-clause-refused c =
    room-refused c.args.left.now c.args.right.now c.args.out.now c.args.comparisons.now (length c.in_ok-compared.compared.bits) c.write.result c.in_ok-compared.ensures.compared.size c.write.ensures.refused c.write.ensures.room

pub returns-in_err-compared-clause-refused : goal.returns-in_err-compared-clause-refused
returns-in_err-compared-clause-refused c =
    let p = err_from_is_err_and c.from_residual.result c.from_residual.ensures.1 in
    rw (p.1, p.2) (comparison-refused c.args.left.now c.args.right.now c.args.out.now c.args.comparisons.now _ c.in_err-compared.ensures.refused)
