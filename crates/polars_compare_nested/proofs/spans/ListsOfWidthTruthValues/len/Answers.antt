use Rattle.std.proofs.Common.{sym}
use Rattle.polars_arrays_bytes.specs.OffsetStrings.{places}
use Rattle.polars_compare_nested.proofs.MatchBits.{length-width}
use Rattle.polars_compare_nested.proofs.spans.ListsOfWidthTruthValues.len.Goals as goal

pub returns : goal.returns
returns g c =
    let l = c.args.self.now in
    sym (length-width (places g.O.Number.value l.offsets.now) l.a l.rows l.width)
