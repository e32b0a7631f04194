use Rattle.std.proofs.Common.{arith}
use Rattle.polars_arrays_bytes.proofs.OffsetWindows.{start_read, end_read, reads_row, read_bounds, read_on, rest_holds}
use Rattle.polars_arrays_bytes.proofs.offsets.string_on.Goals as goal

pub place-from-requires-after_bounds : goal.place-from-requires-after_bounds
place-from-requires-after_bounds g c κs within =
    start_read g.O.Number.value _ c.args.offsets.now c.args.i _ c.index-offsets-i.is c.requires.row c.requires.good

pub place-to-requires-after_bounds : goal.place-to-requires-after_bounds
place-to-requires-after_bounds g c κs within =
    end_read g.O.Number.value _ c.args.offsets.now c.args.i _ c.index-offsets-i-2.is c.requires.row c.requires.good

pub slice_bounds-result-count : goal.slice_bounds-result-count
slice_bounds-result-count g c =
    let reads = reads_row g.O.Number.value c.args.offsets.now c.args.i _ _ c.place-from.result c.place-to.result c.requires.row c.index-offsets-i.is c.place-from.ensures c.index-offsets-i-2.is c.place-to.ensures in
    let bounds = read_bounds g.O.Number.value _ c.args.offsets.now c.args.i c.place-from.result c.place-to.result reads c.requires.good in omega (arith, bounds.0, bounds.1)

pub overflow_sub-result : goal.overflow_sub-result
overflow_sub-result g c =
    let reads = reads_row g.O.Number.value c.args.offsets.now c.args.i _ _ c.place-from.result c.place-to.result c.requires.row c.index-offsets-i.is c.place-from.ensures c.index-offsets-i-2.is c.place-to.ensures in
    (read_bounds g.O.Number.value _ c.args.offsets.now c.args.i c.place-from.result c.place-to.result reads c.requires.good).0

pub returns-clause-within : goal.returns-clause-within
returns-clause-within g c =
    let reads = reads_row g.O.Number.value c.args.offsets.now c.args.i _ _ c.place-from.result c.place-to.result c.requires.row c.index-offsets-i.is c.place-from.ensures c.index-offsets-i-2.is c.place-to.ensures in
    rest_holds c.args.values.now c.place-from.result c.place-to.result (read_bounds g.O.Number.value _ c.args.offsets.now c.args.i c.place-from.result c.place-to.result reads c.requires.good)

pub returns-clause-string : goal.returns-clause-string
returns-clause-string g c =
    let reads = reads_row g.O.Number.value c.args.offsets.now c.args.i _ _ c.place-from.result c.place-to.result c.requires.row c.index-offsets-i.is c.place-from.ensures c.index-offsets-i-2.is c.place-to.ensures in
    read_on g.O.Number.value c.args.offsets.now c.args.values.now c.args.i c.place-from.result c.place-to.result reads
