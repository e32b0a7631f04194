use Rattle.polars_compute.proofs.MergedStates.{stays-appended, stays-merged}
use Rattle.polars_compute.proofs.ReadStates.{read_stays-appended, read_stays-merged}
use Rattle.polars_compute.proofs.laws.law_all_seen.Goals as goal

pub returns : goal.returns
returns c = record { appended = stays-appended; merged = stays-merged; read_appended = read_stays-appended; read_merged = read_stays-merged }
