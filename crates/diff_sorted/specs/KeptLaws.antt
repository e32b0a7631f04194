-- Lemmas: what a report keeps.
use Rattle.std.proofs.Common.{◌≡◌, ◌∙◌, refl}
use Rattle.diff_sorted.specs.declared.report.SortedReport.{SortedReport}

-- a report has the frame and the limit that another has
pub record IsAlike (old new : SortedReport) : Type 0 where
  pub frame : new.frame ≡ old.frame
  pub limit : new.limit ≡ old.limit

pub alike_self : (a : SortedReport) → IsAlike a a
alike_self a = record { frame = refl; limit = refl }

pub alike_on : (a b c : SortedReport) → IsAlike a b → IsAlike b c → IsAlike a c
alike_on a b c h g = record { frame = g.frame ∙ h.frame; limit = g.limit ∙ h.limit }
