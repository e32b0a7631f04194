use Rattle.std.proofs.Common.{◌≤◌, refl, arith}
use Rattle.std.proofs.lemmas.Bool.Decides.{same_from_decides, Decides-like, nat_tests}
use Rattle.std.proofs.lemmas.Slice.Eq.{bytes_eq-Decides}
use Rattle.polars_arrays_views.specs.Views.{view_len}
use Rattle.polars_arrays_views.proofs.EqualRows.{equal_by_all}
use Rattle.polars_arrays_views.proofs.rows.guess_equal.Goals as goal

pub returns : goal.returns
returns c = λ buffers others good good_too sure.
    let short : view_len c.args.v.now ≤ 12 = grind (arith, nat_tests, sure) in
    let told = equal_by_all buffers others c.args.v.now c.args.w.now _ _ good good_too refl refl short in
    same_from_decides _ _ (Decides-like _ told.0 told.1 c.same_bytes.ensures) (bytes_eq-Decides _ _)
