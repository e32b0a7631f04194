use Rattle.std.proofs.Common.{◌≤◌, ◌∙◌, refl, sym, arith}
use Rattle.std.proofs.lemmas.Bool.Decides.{nat_tests}
use Rattle.polars_arrays_views.specs.Views.{view_len}
use Rattle.polars_arrays_views.proofs.EqualRows.{not_followed-short}
use Rattle.polars_arrays_views.proofs.rows.lies_in_view.Goals as goal

pub returns-clause-free : goal.returns-clause-free
returns-clause-free c = λ buffers others w good good_too sure.
    let told = sym c.is_short.ensures ∙ sure in
    let short : view_len c.args.v.now ≤ 12 = grind (arith, nat_tests, told) in
    not_followed-short buffers others c.args.v.now w _ _ good good_too refl refl short
