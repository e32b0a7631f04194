use Rattle.std.proofs.Common.{◌<◌, ◌-◌, ◌^◌, List, ℕ, subst}
use Rattle.std.specs.Prelude.{All}
use Rattle.diff_sorted.proofs.report.SortedReport.check_counts.Goals as goal

pub returns : goal.returns
returns c = subst (λ (l : List ℕ). All (λ n. n < 2 ^ 64 - 1) l) c.deref.ensures.value (c.are_below-have_room.ensures c.if-not-have_room.false)
