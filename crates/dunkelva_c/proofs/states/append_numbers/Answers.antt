use Rattle.std.proofs.Common.{ap₂}
use Rattle.arrow_calls.specs.Columns.{rows_lent}
use Rattle.dunkelva_c.proofs.StateMemory.{appended-same}
use Rattle.dunkelva_c.proofs.states.append_numbers.Goals as goal
use Rattle.polars_arrays_flat.specs.ArrayRows.{number_rows}
use Rattle.polars_arrays_flat.specs.StoredRows.{number_slots, rows_under}

pub returns-clause-appended : goal.returns-clause-appended
returns-clause-appended g c =
    let value = g.T.Number.value in
    appended-same (value c.in-Some.least) c.args.range.now.least c.args.range.now.count (number_rows value c.in_ok-column.column) (rows_lent value c.args.part.now c.args.values.now) c.args.words.now c.append.new.words c.args.flag.now c.append.new.flag c.append.result
    c.in-Some.ensures.number
    (ap₂ (λ v xs. rows_under v (number_slots value xs)) c.in_ok-column.ensures.made.validity c.in_ok-column.ensures.made.values)
    (record { told = c.append.ensures.within; held = c.append.ensures.appended; kept = c.append.ensures.kept })
