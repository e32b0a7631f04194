use Rattle.std.proofs.Common.{◌+◌, ◌<◌, arith, length, rules}
use Rattle.diff_tables.proofs.AlikeLemmas.{bytes_between, end_there, ends_within}
use Rattle.diff_tables.proofs.alike.bytes_from.Goals as goal

pub offset_bounds-ends-at : goal.offset_bounds-ends-at
offset_bounds-ends-at g c =
    let within : c.args.at + c.args.n < length c.offsets-ends.result.now = ends_within g.O.Number.value c.offsets-ends.result.now c.args.array.now.values c.args.at c.args.n c.offsets-ends.ensures.good (rw c.offsets-ends.ensures.offsets c.requires) in
    omega (arith, within)

pub bounds-ends-at : goal.bounds-ends-at
bounds-ends-at g c =
    let within : c.args.at + c.args.n < length c.offsets-ends.result.now = ends_within g.O.Number.value c.offsets-ends.result.now c.args.array.now.values c.args.at c.args.n c.offsets-ends.ensures.good (rw c.offsets-ends.ensures.offsets c.requires) in
    omega (arith, within)

pub place-from-requires-after_bounds : goal.place-from-requires-after_bounds
place-from-requires-after_bounds g c κs within =
    let inside : c.args.at + c.args.n < length c.offsets-ends.result.now = ends_within g.O.Number.value c.offsets-ends.result.now c.args.array.now.values c.args.at c.args.n c.offsets-ends.ensures.good (rw c.offsets-ends.ensures.offsets c.requires) in
    end_there g.O.Number.value c.offsets-ends.result.now c.args.array.now.values c.args.at _ c.offsets-ends.ensures.good c.index-ends-at.is (omega (arith, inside))

pub offset_bounds-ends-at-2 : goal.offset_bounds-ends-at-2
offset_bounds-ends-at-2 g c =
    let within : c.args.at + c.args.n < length c.offsets-ends.result.now = ends_within g.O.Number.value c.offsets-ends.result.now c.args.array.now.values c.args.at c.args.n c.offsets-ends.ensures.good (rw c.offsets-ends.ensures.offsets c.requires) in
    omega (arith, within)

pub bounds-ends-at-2 : goal.bounds-ends-at-2
bounds-ends-at-2 g c =
    let within : c.args.at + c.args.n < length c.offsets-ends.result.now = ends_within g.O.Number.value c.offsets-ends.result.now c.args.array.now.values c.args.at c.args.n c.offsets-ends.ensures.good (rw c.offsets-ends.ensures.offsets c.requires) in
    within

pub place-to-requires-after_bounds : goal.place-to-requires-after_bounds
place-to-requires-after_bounds g c κs within =
    let inside : c.args.at + c.args.n < length c.offsets-ends.result.now = ends_within g.O.Number.value c.offsets-ends.result.now c.args.array.now.values c.args.at c.args.n c.offsets-ends.ensures.good (rw c.offsets-ends.ensures.offsets c.requires) in
    end_there g.O.Number.value c.offsets-ends.result.now c.args.array.now.values (c.args.at + c.args.n) _ c.offsets-ends.ensures.good c.index-ends-at-2.is inside

pub slice_bounds-result-count : goal.slice_bounds-result-count
slice_bounds-result-count g c =
    let within : c.args.at + c.args.n < length c.offsets-ends.result.now = ends_within g.O.Number.value c.offsets-ends.result.now c.args.array.now.values c.args.at c.args.n c.offsets-ends.ensures.good (rw c.offsets-ends.ensures.offsets c.requires) in
    let between = bytes_between g.O.Number.value c.offsets-ends.result.now c.args.array.now.values c.args.at c.args.n _ _ c.place-from.result c.place-to.result c.offsets-ends.ensures.good within c.index-ends-at.is c.place-from.ensures c.index-ends-at-2.is c.place-to.ensures in
    between.rise

pub slice_bounds-result-start : goal.slice_bounds-result-start
slice_bounds-result-start g c =
    let within : c.args.at + c.args.n < length c.offsets-ends.result.now = ends_within g.O.Number.value c.offsets-ends.result.now c.args.array.now.values c.args.at c.args.n c.offsets-ends.ensures.good (rw c.offsets-ends.ensures.offsets c.requires) in
    let between = bytes_between g.O.Number.value c.offsets-ends.result.now c.args.array.now.values c.args.at c.args.n _ _ c.place-from.result c.place-to.result c.offsets-ends.ensures.good within c.index-ends-at.is c.place-from.ensures c.index-ends-at-2.is c.place-to.ensures in
    search (between.rise, rules)

pub slice_bounds-result-end : goal.slice_bounds-result-end
slice_bounds-result-end g c =
    let within : c.args.at + c.args.n < length c.offsets-ends.result.now = ends_within g.O.Number.value c.offsets-ends.result.now c.args.array.now.values c.args.at c.args.n c.offsets-ends.ensures.good (rw c.offsets-ends.ensures.offsets c.requires) in
    let between = bytes_between g.O.Number.value c.offsets-ends.result.now c.args.array.now.values c.args.at c.args.n _ _ c.place-from.result c.place-to.result c.offsets-ends.ensures.good within c.index-ends-at.is c.place-from.ensures c.index-ends-at-2.is c.place-to.ensures in
    search (between.rise, between.within, c.values.ensures, rules)

pub returns : goal.returns
returns g c =
    let within : c.args.at + c.args.n < length c.offsets-ends.result.now = ends_within g.O.Number.value c.offsets-ends.result.now c.args.array.now.values c.args.at c.args.n c.offsets-ends.ensures.good (rw c.offsets-ends.ensures.offsets c.requires) in
    let between = bytes_between g.O.Number.value c.offsets-ends.result.now c.args.array.now.values c.args.at c.args.n _ _ c.place-from.result c.place-to.result c.offsets-ends.ensures.good within c.index-ends-at.is c.place-from.ensures c.index-ends-at-2.is c.place-to.ensures in
    rw (c.values.ensures, ← c.offsets-ends.ensures.offsets) between.bytes
