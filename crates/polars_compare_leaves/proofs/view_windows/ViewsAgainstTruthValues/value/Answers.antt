use Rattle.std.proofs.Common.{◌∙◌, sym}
use Rattle.polars_arrays_flat.specs.Row.{Bytes}
use Rattle.polars_arrays_views.specs.Parts.{view_strings}
use Rattle.polars_compare_leaves.proofs.Tested.{against-at}
use Rattle.polars_compare_leaves.proofs.view_windows.ViewsAgainstTruthValues.value.Goals as goal

pub returns : goal.returns
returns g c =
    c.compare_bytes.ensures ∙ sym (against-at (λ row. g.E.ViewComparison.rows row (Bytes c.args.self.now.right)) (view_strings c.args.self.now.left.now) c.args.i c.requires)
