use Rattle.std.proofs.Common.{take}
use Rattle.std.specs.Option.{option_copied}
use Rattle.schema_columns.specs.Present.{Gathers, cells_of}
use Rattle.schema_columns.proofs.present.present_cells.Given as goal

abbrev pub invariant-loop-i : goal.invariant-loop-i
invariant-loop-i l = Gathers (option_copied l.fn.null) (cells_of l.fn.column (take l.i l.fn.table.rows)) l.gathered
