use Rattle.std.proofs.Common.{◌≡◌, take}
use Rattle.std.specs.String.{string_bytes}
use Rattle.polars_arrays_flat.specs.StoredRows.{rows_under}
use Rattle.polars_tables_rows.specs.Written.{row_words}
use Rattle.polars_tables_rows.proofs.written.write_rows.Given as goal

abbrev pub invariant-loop-i : goal.invariant-loop-i
invariant-loop-i g l = string_bytes l.text ≡ row_words (take l.i (rows_under (g.A.Array.mask l.array) (g.A.Array.slots l.array)))
