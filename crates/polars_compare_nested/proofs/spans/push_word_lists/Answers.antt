use Rattle.std.proofs.Common.{arith, refl}
use Rattle.polars_arrays_bytes.specs.OffsetStrings.{places}
use Rattle.polars_arrays_nested.specs.ListOffsets.{list_places}
use Rattle.polars_arrays_nested.specs.Parts.{list_offsets}
use Rattle.polars_arrays_words.specs.Bits.{first_of, is_bit}
use Rattle.polars_compare_nested.proofs.ListBits.{adds_lists, length-lists, lent_offset, lists_lie, lists_within}
use Rattle.polars_compare_nested.proofs.WordRuns.{adds_few}
use Rattle.polars_compare_nested.proofs.spans.push_word_lists.Goals as goal

pub invariant_of-extend_values-clause-within : goal.invariant_of-extend_values-clause-within
invariant_of-extend_values-clause-within g c i low =
    let part = lists_within _ _ (places g.O.Number.value c.args.offsets.now) (list_offsets c.args.array.now) c.args.a c.args.rows c.place_of-first.result c.requires.good.0.good c.requires.offsets c.requires.within c.place_of-first.ensures refl i low in
    omega (arith, part, c.requires.few)

pub invariant_of-extend_values-clause-has_offsets : goal.invariant_of-extend_values-clause-has_offsets
invariant_of-extend_values-clause-has_offsets g c =
    lent_offset g.O.Number.value c.args.offsets.now _ (list_offsets c.args.array.now) _ c.requires.good.0.good c.requires.offsets c.requires.within

pub invariant_of-extend_values-clause-good : goal.invariant_of-extend_values-clause-good
invariant_of-extend_values-clause-good g c =
    lists_lie _ (places g.O.Number.value c.args.offsets.now) (list_offsets c.args.array.now) c.args.a c.args.rows c.requires.good.0.good c.requires.offsets c.requires.within

pub extend_values-requires : goal.extend_values-requires
extend_values-requires g c =
    omega (arith, c.requires.room, length-lists (first_of (is_bit c.args.word) 64) (places g.O.Number.value c.args.offsets.now) c.place_of-first.result c.args.a c.args.rows)

pub returns-clause-bits : goal.returns-clause-bits
returns-clause-bits g c =
    let within = lists_within _ _ (list_places (list_offsets c.args.array.now)) (list_offsets c.args.array.now) c.args.a c.args.rows _ c.requires.good.0.good refl c.requires.within refl refl in
    rw (c.extend_values.ensures, c.place_of-first.ensures, c.requires.offsets)
    (adds_few (is_bit c.args.word) _ 64 (list_places (list_offsets c.args.array.now)) c.args.a c.args.rows c.args.bits.now.bits _ c.requires.few within
    (adds_lists (first_of (is_bit c.args.word) 64) (list_places (list_offsets c.args.array.now)) c.args.a c.args.rows c.args.bits.now.bits))

pub returns-clause-room : goal.returns-clause-room
returns-clause-room g c =
    rw (c.extend_values.ensures, length-lists (first_of (is_bit c.args.word) 64) (places g.O.Number.value c.args.offsets.now) c.place_of-first.result c.args.a c.args.rows) refl
