use Rattle.polars_compute.proofs.MergedStates.{merges-as_appended, merges-either_way, merges-in_groups, merges-with_itself}
use Rattle.polars_compute.proofs.laws.law_states_merge.Goals as goal

pub returns : goal.returns
returns c = record {
  either_way = merges-either_way;
  in_groups = merges-in_groups;
  with_itself = merges-with_itself;
  as_appended = merges-as_appended;
}
