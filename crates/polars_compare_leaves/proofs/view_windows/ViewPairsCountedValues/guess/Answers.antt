use Rattle.std.proofs.Common.{◌∙◌, List, ℕ, ap₂, sym}
use Rattle.polars_arrays_flat.specs.Row.{Bytes}
use Rattle.polars_arrays_views.specs.Parts.{view_strings}
use Rattle.polars_compare_leaves.specs.Pairs.{compared_pair}
use Rattle.polars_compare_leaves.proofs.Stored.{told_of_strings}
use Rattle.polars_compare_leaves.proofs.Tested.{pair-within, pair-at}
use Rattle.polars_compare_leaves.proofs.view_windows.ViewPairsCountedValues.guess.Goals as goal

pub views_at-requires : goal.views_at-requires
views_at-requires g c = pair-within _ c.args.self.now.n c.args.i c.requires

pub returns : goal.returns
returns g c = λ sure.
    let p = c.args.self.now in
    let pair = c.views_at.ensures in
    let within = pair-within _ p.n c.args.i c.requires in
    told_of_strings (λ (xs ys : List ℕ). g.E.ViewComparison.rows (Bytes xs) (Bytes ys)) _ _ _ _ _
    (c.guess.ensures _ _ pair.left_good pair.right_good (ap₂ g.E.ViewComparison.sure pair.left pair.right ∙ sure)) pair.left_row pair.right_row
    ∙ sym (pair-at (compared_pair g.E.ViewComparison.rows (view_strings p.left.now) (view_strings p.right.now) p.a p.b) p.n c.args.i within)
