use Rattle.std.proofs.Common.{sym}
use Rattle.polars_arrays_bytes.specs.OffsetStrings.{places}
use Rattle.polars_compare_nested.proofs.MatchBits.{length-counts}
use Rattle.polars_compare_nested.proofs.spans.SameCountsTruthValues.len.Goals as goal

pub returns : goal.returns
returns g c =
    let l = c.args.self.now in
    sym (length-counts (places g.L.Number.value l.left.now) l.a (places g.R.Number.value l.right.now) l.b l.rows)
