use Rattle.std.proofs.Common.{arith}
use Rattle.std.proofs.lemmas.Result.{MatchResult-weaker}
use Rattle.polars_arrays_bytes.specs.SizedStrings.{sized_strings}
use Rattle.polars_compare_nested.proofs.LeafRows.{byte-bits}
use Rattle.polars_compare_nested.proofs.Strings.{length-sized}
use Rattle.polars_compare_nested.proofs.leaf_windows.eq_sized_strings.Goals as goal

pub returns : goal.returns
returns c =
    let l = c.args.left.now in
    let r = c.args.right.now in
    MatchResult-weaker c.compare_sized_windows.result c.compare_sized_windows.ensures
    (λ bits e. byte-bits l.validity r.validity (sized_strings l.size l.count l.values) (sized_strings r.size r.count r.values) c.args.a c.args.b c.args.n bits (omega (arith, c.requires.left_in, length-sized l.size l.count l.values)) (omega (arith, c.requires.right_in, length-sized r.size r.count r.values)) e)
    (λ error m. m)
