use Rattle.std.proofs.Common.{[], subst}
use Rattle.polars_arrays_views.specs.Parts.{ViewParts, view_strings}
use Rattle.polars_arrays_views.specs.Texts.{AllText, IsFirstNotText}
use Rattle.polars_arrays_views.proofs.text_view.Utf8ViewArray.try_new.Goals as goal

pub returns-in-Some-clause-made : goal.returns-in-Some-clause-made
returns-in-Some-clause-made c =
    let made = c.in_ok-binary.ensures.made in
    let other = subst (λ (a : ViewParts). IsFirstNotText (view_strings a) c.in-Some.row) made.1 c.in-Some.ensures in
    λ good. other.1 (good.1 c.in-Some.row [] other.0)

pub returns-in-Some-clause-refused : goal.returns-in-Some-clause-refused
returns-in-Some-clause-refused c =
    let made = c.in_ok-binary.ensures.made in
    (made.0, subst (λ (a : ViewParts). IsFirstNotText (view_strings a) c.in-Some.row) made.1 c.in-Some.ensures)

pub returns-in-None-clause-made : goal.returns-in-None-clause-made
returns-in-None-clause-made c =
    let made = c.in_ok-binary.ensures.made in
    ((made.0, subst AllText made.1 c.in-None.ensures), made.1)
