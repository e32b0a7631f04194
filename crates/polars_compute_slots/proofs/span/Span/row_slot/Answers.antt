use Rattle.std.proofs.Common.{rules}
use Rattle.polars_compute_slots.proofs.span.Span.row_slot.Goals as goal

pub returns-else-present : goal.returns-else-present
returns-else-present c = search rules
