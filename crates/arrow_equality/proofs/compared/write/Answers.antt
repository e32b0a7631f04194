use Rattle.std.specs.Prelude.{length}
use Rattle.std.proofs.lemmas.Result.{err_from_is_err_and}
use Rattle.arrow_equality.proofs.Comparisons.{no-bits}
use Rattle.arrow_equality.proofs.compared.write.Goals as goal

pub returns-in_err-write_bits-clause-room : goal.returns-in_err-write_bits-clause-room
returns-in_err-write_bits-clause-room c =
    let p = err_from_is_err_and c.from_residual.result c.from_residual.ensures.1 in
    rw p.1 (no-bits (length c.args.compared.now.bits) c.args.out.now c.args.comparisons.now c.in_err-write_bits.ensures.room)
