use Rattle.std.proofs.Common.{arith}
use Rattle.arrow_parts.specs.Lent.{places_from}
use Rattle.arrow_equality.proofs.LentPlaces.{end-lent, lends_row, lent_bounds, lent_on, start-lent}
use Rattle.polars_arrays_bytes.proofs.OffsetWindows.{rest_holds}
use Rattle.arrow_equality.proofs.part_strings.string_on.Goals as goal

pub place_of-from-requires-after_bounds : goal.place_of-from-requires-after_bounds
place_of-from-requires-after_bounds g c κs within =
    start-lent g.O.Number.value c.args.base _ c.args.offsets.now c.args.i _ c.index-offsets-i.is c.requires.row c.requires.good

pub place_of-to-requires-after_bounds : goal.place_of-to-requires-after_bounds
place_of-to-requires-after_bounds g c κs within =
    end-lent g.O.Number.value c.args.base _ c.args.offsets.now c.args.i _ c.index-offsets-i-2.is c.requires.row c.requires.good

pub slice_bounds-result-count : goal.slice_bounds-result-count
slice_bounds-result-count g c =
    let reads = lends_row g.O.Number.value c.args.base c.args.offsets.now c.args.i _ _ c.place_of-from.result c.place_of-to.result c.requires.row c.index-offsets-i.is c.place_of-from.ensures c.index-offsets-i-2.is c.place_of-to.ensures in
    let all = places_from c.args.base g.O.Number.value c.args.offsets.now in
    let bounds = lent_bounds _ all c.args.i c.place_of-from.result c.place_of-to.result reads c.requires.good in
    omega (arith, bounds.0, bounds.1)

pub slice_bounds-result-start : goal.slice_bounds-result-start
slice_bounds-result-start g c =
    let reads = lends_row g.O.Number.value c.args.base c.args.offsets.now c.args.i _ _ c.place_of-from.result c.place_of-to.result c.requires.row c.index-offsets-i.is c.place_of-from.ensures c.index-offsets-i-2.is c.place_of-to.ensures in
    let all = places_from c.args.base g.O.Number.value c.args.offsets.now in
    let bounds = lent_bounds _ all c.args.i c.place_of-from.result c.place_of-to.result reads c.requires.good in
    omega (arith, bounds.0, bounds.1)

pub overflow_sub-result : goal.overflow_sub-result
overflow_sub-result g c =
    let reads = lends_row g.O.Number.value c.args.base c.args.offsets.now c.args.i _ _ c.place_of-from.result c.place_of-to.result c.requires.row c.index-offsets-i.is c.place_of-from.ensures c.index-offsets-i-2.is c.place_of-to.ensures in
    let all = places_from c.args.base g.O.Number.value c.args.offsets.now in
    (lent_bounds _ all c.args.i c.place_of-from.result c.place_of-to.result reads c.requires.good).0

pub returns-clause-within : goal.returns-clause-within
returns-clause-within g c =
    let reads = lends_row g.O.Number.value c.args.base c.args.offsets.now c.args.i _ _ c.place_of-from.result c.place_of-to.result c.requires.row c.index-offsets-i.is c.place_of-from.ensures c.index-offsets-i-2.is c.place_of-to.ensures in
    let all = places_from c.args.base g.O.Number.value c.args.offsets.now in
    rest_holds c.args.bytes.now c.place_of-from.result c.place_of-to.result (lent_bounds _ all c.args.i c.place_of-from.result c.place_of-to.result reads c.requires.good)

pub returns-clause-string : goal.returns-clause-string
returns-clause-string g c =
    let reads = lends_row g.O.Number.value c.args.base c.args.offsets.now c.args.i _ _ c.place_of-from.result c.place_of-to.result c.requires.row c.index-offsets-i.is c.place_of-from.ensures c.index-offsets-i-2.is c.place_of-to.ensures in
    let all = places_from c.args.base g.O.Number.value c.args.offsets.now in
    lent_on all c.args.bytes.now c.args.i c.place_of-from.result c.place_of-to.result reads
