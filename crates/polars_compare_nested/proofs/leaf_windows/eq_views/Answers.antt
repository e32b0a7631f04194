use Rattle.std.proofs.Common.{arith}
use Rattle.std.proofs.lemmas.List.{length-map}
use Rattle.std.proofs.lemmas.Result.{MatchResult-weaker}
use Rattle.polars_arrays_views.specs.Parts.{view_strings}
use Rattle.polars_arrays_views.specs.Views.{row_bytes}
use Rattle.polars_compare_nested.proofs.LeafRows.{pair-bits}
use Rattle.polars_compare_nested.proofs.leaf_windows.eq_views.Goals as goal

pub returns : goal.returns
returns c =
    let l = c.args.left.now in
    let r = c.args.right.now in
    MatchResult-weaker c.compare_view_windows.result c.compare_view_windows.ensures.told
    (λ bits pairs. pair-bits l.validity r.validity (view_strings l) (view_strings r) c.args.a c.args.b c.args.n bits (omega (arith, c.requires.left_in, length-map l.views (row_bytes l.buffers))) (omega (arith, c.requires.right_in, length-map r.views (row_bytes r.buffers))) pairs)
    (λ error m. m)
