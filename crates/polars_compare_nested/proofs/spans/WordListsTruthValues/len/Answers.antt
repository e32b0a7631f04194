use Rattle.std.proofs.Common.{sym}
use Rattle.polars_arrays_bytes.specs.OffsetStrings.{places}
use Rattle.polars_arrays_words.specs.Bits.{first_of, is_bit}
use Rattle.polars_compare_nested.proofs.ListBits.{length-lists}
use Rattle.polars_compare_nested.proofs.spans.WordListsTruthValues.len.Goals as goal

pub returns : goal.returns
returns g c =
    let l = c.args.self.now in
    sym (length-lists (first_of (is_bit l.word) 64) (places g.O.Number.value l.offsets.now) l.first l.a l.rows)
