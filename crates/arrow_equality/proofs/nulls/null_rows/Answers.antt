use Rattle.std.proofs.Common.{rules}
use Rattle.std.specs.Prelude.{length}
use Rattle.std.proofs.lemmas.Result.{err_from_is_err_and}
use Rattle.arrow_arrays.specs.Columns.{rows_of_parts}
use Rattle.arrow_equality.proofs.NullRows.{nulls-no-room, nulls-written}
use Rattle.arrow_equality.proofs.nulls.null_rows.Goals as goal

pub returns-in_err-write_bits-clause-refused : goal.returns-in_err-write_bits-clause-refused
returns-in_err-write_bits-clause-refused c =
    let p = err_from_is_err_and c.from_residual-in_err-write_bits.result c.from_residual-in_err-write_bits.ensures.1 in
    rw (p.1, p.2) (nulls-no-room (length c.args.out.now) c.args.parts.now c.in_ok-bits.bits _ c.in_ok-bits.ensures.bits c.in_err-write_bits.ensures.refused c.in_err-write_bits.ensures.room)

pub returns-clause-written : goal.returns-clause-written
returns-clause-written c =
    nulls-written (rows_of_parts c.args.parts.now) c.in_ok-bits.bits _ _ c.in_ok-bits.ensures.bits c.in_ok-write_bits.ensures.written (search rules)
