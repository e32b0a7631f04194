use Rattle.std.proofs.Common.{◌≡◌, ◌<◌, ℕ, get_or}
use Rattle.diff_columns.specs.Names.{name_at}
use Rattle.diff_columns.proofs.places.place_named.Given as goal

abbrev pub invariant-loop-p : goal.invariant-loop-p
invariant-loop-p g l = (p : ℕ) → p < l.p → ¬ (name_at (g.N.ByteRows.strings l.names) (get_or l.columns p 0) ≡ l.name)
