use Rattle.std.proofs.Common.{refl, arith, below_more}
use Rattle.polars_arrays_bytes.specs.OffsetStrings.{places}
use Rattle.polars_arrays_bytes.proofs.OffsetWindows.{bad_row, bad_start, length-places, told_not}
use Rattle.polars_arrays_bytes.proofs.RisingOffsets.{rising_good}
use Rattle.polars_arrays_bytes.proofs.offsets.first_bad_row.Goals as goal

pub returns-then-not-starts_within : goal.returns-then-not-starts_within
returns-then-not-starts_within g c =
    bad_start c.args.n (places g.O.Number.value c.args.offsets.now) (told_not c.if-not-starts_within.ensures.1)

pub returns-then-are_rising : goal.returns-then-are_rising
returns-then-are_rising g c =
    rising_good g.O.Number.value c.args.n c.args.offsets.now (c.if-not-starts_within.ensures.0 refl) (c.ends_within.ensures c.if-ends_within.true) (c.are_rising.ensures c.if-are_rising.true)

pub returns-then-not-is_good_row : goal.returns-then-not-is_good_row
returns-then-not-is_good_row g c = record {
  bad = bad_row c.args.n (places g.O.Number.value c.args.offsets.now) c.loop-row.row (omega (arith, length-places g.O.Number.value c.args.offsets.now)) (told_not c.if-not-is_good_row.ensures.1);
  before = c.loop-row.invariant;
}

pub loop-row-preserved : goal.loop-row-preserved
loop-row-preserved g c = below_more _ _ c.loop-row.invariant (c.if-not-is_good_row.ensures.0 refl)

pub returns : goal.returns
returns g c = record {
  first = c.if-not-starts_within.ensures.0 refl;
  rows = λ i below. c.loop-row.invariant i (omega (arith, below, length-places g.O.Number.value c.args.offsets.now));
}
