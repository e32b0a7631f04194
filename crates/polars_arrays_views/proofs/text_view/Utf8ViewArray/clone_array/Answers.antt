use Rattle.std.proofs.Common.{sym, subst}
use Rattle.polars_arrays_views.specs.Texts.{AllText}
use Rattle.polars_arrays_views.proofs.text_view.Utf8ViewArray.clone_array.Goals as goal

pub invariant_of-result : goal.invariant_of-result
invariant_of-result c = subst AllText (sym c.in_ok-binary.ensures) c.self.invariant
