use Rattle.polars_arrays_bytes.proofs.OffsetWindows.{row_among, row_good}
use Rattle.polars_arrays_bytes.proofs.lent_strings.LentStringsByteRows.bytes.Goals as goal

pub string_at-requires-clause-row : goal.string_at-requires-clause-row
string_at-requires-clause-row g c κs within = row_among g.O.Number.value c.args.self.now.array.now _ c.args.i c.args.self.now.offsets_are c.requires

pub string_at-requires-clause-good : goal.string_at-requires-clause-good
string_at-requires-clause-good g c κs within =
    row_good g.O.Number.value c.args.self.now.array.now _ _ c.args.i c.args.self.now.offsets_are c.args.self.now.values_are c.law_good.ensures c.requires
