use Rattle.std.proofs.Common.{subst}
use Rattle.polars_arrays_views.specs.Texts.{AllText}
use Rattle.polars_arrays_views.proofs.text_view.Utf8ViewArray.as_binview.Goals as goal

pub returns-clause-text : goal.returns-clause-text
returns-clause-text c = subst AllText c.self.view_is c.self.invariant
