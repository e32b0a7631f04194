use Rattle.std.proofs.Common.{◌+◌, ℕ, drop, subst}
use Rattle.std.proofs.lemmas.Bool.Decides.{Decides-eqb}
use Rattle.polars_arrays_views.specs.Views.{AllZero}
use Rattle.arrow_equality.proofs.LentViews.{zeros_behind}
use Rattle.arrow_equality.proofs.part_views.is_padded.Goals as goal

pub returns : goal.returns
returns c none =
    subst (λ (n : ℕ). AllZero (drop (4 + n) c.args.view.now)) c.len.ensures.length (zeros_behind c.args.view.now c.len.result c.as_u128.result c.len.ensures.view.size c.as_u128.ensures ((Decides-eqb _ 0).0 none))
