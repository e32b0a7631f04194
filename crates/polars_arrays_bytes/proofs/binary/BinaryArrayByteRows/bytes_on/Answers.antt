use Rattle.std.proofs.Common.{List, length, subst}
use Rattle.polars_arrays_bytes.specs.OffsetStrings.{AreGood, places}
use Rattle.polars_arrays_bytes.proofs.OffsetWindows.{row_among, row_good}
use Rattle.polars_arrays_bytes.proofs.binary.BinaryArrayByteRows.bytes_on.Goals as goal

pub string_on-requires-clause-row : goal.string_on-requires-clause-row
string_on-requires-clause-row g c κs within = row_among g.O.Number.value c.args.self.now _ c.args.i c.offsets.ensures.offsets c.requires

pub string_on-requires-clause-good : goal.string_on-requires-clause-good
string_on-requires-clause-good g c κs within =
    let good = subst (λ (xs : List _). AreGood (length c.args.self.now.values) (places g.O.Number.value xs)) c.offsets.ensures.offsets c.offsets.ensures.good in
    row_good g.O.Number.value c.args.self.now _ _ c.args.i c.offsets.ensures.offsets c.values.ensures good c.requires
