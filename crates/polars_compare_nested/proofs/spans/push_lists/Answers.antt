use Rattle.std.proofs.Common.{ap, length, arith, refl}
use Rattle.polars_arrays_bytes.specs.OffsetStrings.{places}
use Rattle.polars_arrays_nested.specs.ListOffsets.{list_places}
use Rattle.polars_arrays_nested.specs.Parts.{list_offsets}
use Rattle.polars_compare_nested.proofs.ListBits.{adds_lists, length-lists, lent_offset, lists_lie, lists_within}
use Rattle.polars_compare_nested.proofs.OneWidth.{width_blocks, width_places}
use Rattle.polars_compare_nested.proofs.spans.push_lists.Goals as goal

pub invariant_of-extend_values-clause-within : goal.invariant_of-extend_values-clause-within
invariant_of-extend_values-clause-within g c =
    rw c.from_bitmap.ensures
    (lists_within _ _ (places g.O.Number.value c.args.offsets.now) (list_offsets c.args.array.now) c.args.a c.args.rows c.place_of-first.result c.requires.good.0.good c.requires.offsets c.requires.within c.place_of-first.ensures c.requires.items)

pub invariant_of-extend_values-clause-has_offsets : goal.invariant_of-extend_values-clause-has_offsets
invariant_of-extend_values-clause-has_offsets g c =
    lent_offset g.O.Number.value c.args.offsets.now _ (list_offsets c.args.array.now) _ c.requires.good.0.good c.requires.offsets c.requires.within

pub invariant_of-extend_values-clause-good : goal.invariant_of-extend_values-clause-good
invariant_of-extend_values-clause-good g c =
    lists_lie _ (places g.O.Number.value c.args.offsets.now) (list_offsets c.args.array.now) c.args.a c.args.rows c.requires.good.0.good c.requires.offsets c.requires.within

pub extend_values-requires : goal.extend_values-requires
extend_values-requires g c =
    omega (arith, c.requires.room, length-lists c.from_bitmap.result (places g.O.Number.value c.args.offsets.now) c.place_of-first.result c.args.a c.args.rows)

pub returns-in-None-clause-bits : goal.returns-in-None-clause-bits
returns-in-None-clause-bits g c =
    rw (c.extend_values.ensures, c.from_bitmap.ensures, c.place_of-first.ensures, c.requires.offsets)
    (adds_lists c.args.items.now (list_places (list_offsets c.args.array.now)) c.args.a c.args.rows c.args.bits.now.bits)

pub returns-in-None-clause-room : goal.returns-in-None-clause-room
returns-in-None-clause-room g c =
    rw (c.extend_values.ensures, length-lists c.from_bitmap.result (places g.O.Number.value c.args.offsets.now) c.place_of-first.result c.args.a c.args.rows) refl

pub extend_blocks-requires-clause-within : goal.extend_blocks-requires-clause-within
extend_blocks-requires-clause-within g c =
    let all = places g.O.Number.value c.args.offsets.now in
    let spans = lists_lie _ all (list_offsets c.args.array.now) c.args.a c.args.rows c.requires.good.0.good c.requires.offsets c.requires.within in
    let far = width_places all c.args.a c.args.rows c.in-Some.width spans c.in-Some.ensures.alike in
    let far' = rw c.requires.offsets at far in
    omega (arith, far', c.requires.items, ap length c.from_bitmap.ensures)

pub returns-in-Some-clause-bits : goal.returns-in-Some-clause-bits
returns-in-Some-clause-bits g c =
    let all = list_places (list_offsets c.args.array.now) in
    let spans = lists_lie _ all (list_offsets c.args.array.now) c.args.a c.args.rows c.requires.good.0.good refl c.requires.within in
    let have = rw c.requires.offsets at c.in-Some.ensures.alike in
    rw (c.extend_blocks.ensures, c.from_bitmap.ensures, width_blocks c.args.items.now all c.args.a c.args.rows c.in-Some.width spans have)
    (adds_lists c.args.items.now all c.args.a c.args.rows c.args.bits.now.bits)

pub place_of-first-requires : goal.place_of-first-requires
place_of-first-requires g c =
    let last = lent_offset g.O.Number.value c.args.offsets.now _ (list_offsets c.args.array.now) _ c.requires.good.0.good c.requires.offsets c.requires.within in
    (c.type_bounds.static-O, omega (arith, last))

pub one_width-requires : goal.one_width-requires
one_width-requires g c = (
  c.type_bounds.static-O,
  (
    lent_offset g.O.Number.value c.args.offsets.now _ (list_offsets c.args.array.now) _ c.requires.good.0.good c.requires.offsets c.requires.within,
    lists_lie _ (places g.O.Number.value c.args.offsets.now) (list_offsets c.args.array.now) c.args.a c.args.rows c.requires.good.0.good c.requires.offsets c.requires.within,
  ),
)
