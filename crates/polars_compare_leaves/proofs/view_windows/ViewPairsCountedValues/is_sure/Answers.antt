use Rattle.polars_compare_leaves.proofs.Tested.{pair-within}
use Rattle.polars_compare_leaves.proofs.view_windows.ViewPairsCountedValues.is_sure.Goals as goal

pub views_at-requires : goal.views_at-requires
views_at-requires g c = pair-within _ c.args.self.now.n c.args.i c.requires
