use Rattle.std.proofs.Common.{◌∙◌, sym}
use Rattle.polars_arrays_views.proofs.SameBytes.{same_by_mask}
use Rattle.polars_arrays_views.proofs.view.View.same_bytes.Goals as goal

pub returns : goal.returns
returns c =
    let told = same_by_mask c.self.inside.bytes c.other.inside.bytes c.self.told c.other.told in
    ((λ none. sym c.self.view_is ∙ told.0 none ∙ c.other.view_is), (λ same. told.1 (c.self.view_is ∙ same ∙ sym c.other.view_is)))
