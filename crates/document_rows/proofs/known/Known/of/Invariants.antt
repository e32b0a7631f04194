use Rattle.std.proofs.Common.{◌<◌, length}
use Rattle.document_rows.proofs.known.Known.of.Given as goal

abbrev pub invariant-loop-row : goal.invariant-loop-row
invariant-loop-row l = 0 < length l.slots.items
