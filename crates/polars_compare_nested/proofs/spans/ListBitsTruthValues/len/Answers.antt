use Rattle.std.proofs.Common.{sym}
use Rattle.polars_arrays_bytes.specs.OffsetStrings.{places}
use Rattle.polars_compare_nested.proofs.ListBits.{length-lists}
use Rattle.polars_compare_nested.proofs.spans.ListBitsTruthValues.len.Goals as goal

pub returns : goal.returns
returns g c =
    let l = c.args.self.now in
    sym (length-lists l.items.now (places g.O.Number.value l.offsets.now) l.first l.a l.rows)
