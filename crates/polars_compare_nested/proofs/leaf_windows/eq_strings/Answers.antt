use Rattle.std.proofs.Common.{arith}
use Rattle.std.proofs.lemmas.Result.{MatchResult-weaker}
use Rattle.polars_arrays_bytes.specs.OffsetStrings.{offset_strings}
use Rattle.polars_compare_nested.proofs.LeafRows.{byte-bits}
use Rattle.polars_compare_nested.proofs.Strings.{length-between}
use Rattle.polars_compare_nested.proofs.leaf_windows.eq_strings.Goals as goal

pub returns : goal.returns
returns g c =
    let l = c.args.left.now in
    let r = c.args.right.now in
    MatchResult-weaker c.compare_byte_windows.result c.compare_byte_windows.ensures
    (λ bits e. byte-bits l.validity r.validity (offset_strings g.O.Number.value l) (offset_strings g.O.Number.value r) c.args.a c.args.b c.args.n bits (omega (arith, c.requires.left_in, length-between g.O.Number.value l)) (omega (arith, c.requires.right_in, length-between g.O.Number.value r)) (rw (c.lent.ensures, c.lent-2.ensures) at e))
    (λ error m. m)
