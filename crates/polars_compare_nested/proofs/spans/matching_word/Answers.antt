use Rattle.std.proofs.Common.{arith}
use Rattle.polars_arrays_bytes.specs.OffsetStrings.{places}
use Rattle.polars_arrays_nested.specs.Parts.{list_offsets}
use Rattle.polars_compare_nested.proofs.ListBits.{lent_offset, lists_lie}
use Rattle.polars_compare_nested.proofs.MatchBits.{length-counts, length-width, match_counts, match_word}
use Rattle.polars_compare_nested.proofs.spans.matching_word.Goals as goal

pub pack_few-same-requires-clause-within : goal.pack_few-same-requires-clause-within
pack_few-same-requires-clause-within g c =
    omega (arith, length-counts (places g.L.Number.value c.args.left_offsets.now) c.args.a (places g.R.Number.value c.args.right_offsets.now) c.args.b c.args.n)

pub returns-then-present-low_bits : goal.returns-then-present-low_bits
returns-then-present-low_bits g c =
    match_counts c.args.left.now c.args.right.now c.args.a c.args.b c.args.n _ _ c.pack_few-same.result c.both_present-present.result c.low_bits.result c.requires.left_offsets c.requires.right_offsets c.pack_few-same.ensures c.both_present-present.ensures c.low_bits.ensures.low c.if-present-low_bits.true

pub pack_few-requires-clause-within : goal.pack_few-requires-clause-within
pack_few-requires-clause-within g c =
    omega (arith, length-width (places g.L.Number.value c.args.left_offsets.now) c.args.a c.args.n 0)

pub returns : goal.returns
returns g c =
    match_word c.args.left.now c.args.right.now c.args.a c.args.b c.args.n _ _ c.pack_few-same.result c.both_present-present.result c.pack_few.result c.requires.left_offsets c.requires.right_offsets c.pack_few-same.ensures c.both_present-present.ensures c.pack_few.ensures

pub invariant_of-counts-clause-left_in : goal.invariant_of-counts-clause-left_in
invariant_of-counts-clause-left_in g c =
    lent_offset g.L.Number.value c.args.left_offsets.now _ (list_offsets c.args.left.now) _ c.requires.left_good.0.good c.requires.left_offsets c.requires.left_in

pub invariant_of-counts-clause-right_in : goal.invariant_of-counts-clause-right_in
invariant_of-counts-clause-right_in g c =
    lent_offset g.R.Number.value c.args.right_offsets.now _ (list_offsets c.args.right.now) _ c.requires.right_good.0.good c.requires.right_offsets c.requires.right_in

pub invariant_of-counts-clause-left_good : goal.invariant_of-counts-clause-left_good
invariant_of-counts-clause-left_good g c =
    lists_lie _ (places g.L.Number.value c.args.left_offsets.now) (list_offsets c.args.left.now) c.args.a c.args.n c.requires.left_good.0.good c.requires.left_offsets c.requires.left_in

pub invariant_of-counts-clause-right_good : goal.invariant_of-counts-clause-right_good
invariant_of-counts-clause-right_good g c =
    lists_lie _ (places g.R.Number.value c.args.right_offsets.now) (list_offsets c.args.right.now) c.args.b c.args.n c.requires.right_good.0.good c.requires.right_offsets c.requires.right_in

pub invariant_of-empty-clause-within : goal.invariant_of-empty-clause-within
invariant_of-empty-clause-within g c =
    lent_offset g.L.Number.value c.args.left_offsets.now _ (list_offsets c.args.left.now) _ c.requires.left_good.0.good c.requires.left_offsets c.requires.left_in

pub invariant_of-empty-clause-good : goal.invariant_of-empty-clause-good
invariant_of-empty-clause-good g c =
    lists_lie _ (places g.L.Number.value c.args.left_offsets.now) (list_offsets c.args.left.now) c.args.a c.args.n c.requires.left_good.0.good c.requires.left_offsets c.requires.left_in
