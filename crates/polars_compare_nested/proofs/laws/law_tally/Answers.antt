use Rattle.std.proofs.Common.{refl}
use Rattle.polars_compare_nested.proofs.Columns.{struct-leaves, tally-struct}
use Rattle.polars_compare_nested.proofs.ListRuns.{lists-adjacent, lists-tally}
use Rattle.polars_compare_nested.proofs.TallyAdds.{tally-adds}
use Rattle.polars_compare_nested.proofs.TallyAlike.{tally-clone, tally-cut}
use Rattle.polars_compare_nested.proofs.TallySwap.{tally-swap}
use Rattle.polars_compare_nested.proofs.TallyWithin.{tally-within}
use Rattle.polars_compare_nested.proofs.laws.law_tally.Goals as goal

pub returns : goal.returns
returns c = record {
  within = tally-within c.law_leaves.ensures;
  adds_up = tally-adds;
  symmetric = tally-swap;
  leaves_add_up = c.law_leaves.ensures;
  lists_adjacent = lists-adjacent;
  list_leaves = λ l a n. refl;
  list_tally = lists-tally;
  struct_leaves = struct-leaves;
  struct_tally = tally-struct;
  of_cut = tally-cut;
  of_clone = tally-clone;
}
