use Rattle.std.proofs.Common.{ℕ, ◌<◌}
use Rattle.arrow_parts.specs.Lent.{buffers_in}
use Rattle.arrow_arrays.specs.Views.{view_in}
use Rattle.arrow_equality.specs.Views.{IsAsciiStretch, LeadsToString}
use Rattle.arrow_equality.proofs.part_views.lead_to_strings.Given as goal

abbrev pub invariant-loop-i : goal.invariant-loop-i
invariant-loop-i l =
    IsAsciiStretch (buffers_in l.part) l.known × ((k : ℕ) → k < l.i → LeadsToString l.texts (buffers_in l.part) (view_in l.part k))
