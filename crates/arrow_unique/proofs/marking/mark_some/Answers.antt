use Rattle.std.proofs.Common.{◌∙◌, ◌<◌, ◌-◌, Bool, List, true, false, length, bit_and, sym, subst, arith}
use Rattle.std.specs.Int.{w64, trailing_zeros}
use Rattle.polars_arrays_flat.specs.Row.{Int}
use Rattle.polars_arrays_flat.specs.StoredRows.{masked, number_slots}
use Rattle.polars_arrays_words.specs.Bits.{first_of, is_bit}
use Rattle.polars_compute_slots.proofs.RowPlaces.{has_slot, length-masked_slots, length-slots, row-masked_slots, row-slots}
use Rattle.arrow_unique.proofs.Lowest.{cleared-here, cleared-others, less-left, lowest-in, lowest-set, still-set}
use Rattle.arrow_unique.proofs.Present.{done-end, done-next, done-none, get_or-first, length-first, within-length}
use Rattle.arrow_unique.specs.Memory.{AreMarked}
use Rattle.arrow_unique.proofs.marking.mark_some.Goals as goal

pub loop-rest-init : goal.loop-rest-init
loop-rest-init g c =
    (λ i set. set, done-none (g.T.Number.value c.args.span.now.least) c.args.span.now.count (number_slots g.T.Number.value c.args.numbers.now) c.args.present (length c.args.numbers.now) c.args.words.now)

pub bounds-numbers-i : goal.bounds-numbers-i
bounds-numbers-i g c =
    within-length c.args.present (length c.args.numbers.now) (trailing_zeros w64 c.loop-rest.rest) c.requires.zeros
    (lowest-in c.loop-rest.rest (omega (arith, c.loop-rest-test.true)) (omega arith))
    (c.loop-rest.invariant.0 (trailing_zeros w64 c.loop-rest.rest) (lowest-set c.loop-rest.rest (omega (arith, c.loop-rest-test.true)) (omega arith)))

pub offset_bounds-numbers-i : goal.offset_bounds-numbers-i
offset_bounds-numbers-i g c = omega (arith, bounds-numbers-i g c)

pub mark_number-requires-clause-fit : goal.mark_number-requires-clause-fit
mark_number-requires-clause-fit g c κs within =
    let value = g.T.Number.value in
    let k = length c.args.numbers.now in
    let bits = first_of (is_bit c.args.present) k in
    let t = trailing_zeros w64 c.loop-rest.rest in
    let some : 0 < c.loop-rest.rest = omega (arith, c.loop-rest-test.true) in
    let long = length-first (is_bit c.args.present) k in
    let here = c.loop-rest.invariant.0 t (lowest-set c.loop-rest.rest some (omega arith)) in
    let lt = within-length c.args.present k t c.requires.zeros (lowest-in c.loop-rest.rest some (omega arith)) here in
    has_slot (value c.args.span.now.least) c.args.span.now.count (masked bits (number_slots value c.args.numbers.now)) t (Int (value c.index-numbers-i.result)) c.requires.fit
    (omega (arith, length-masked_slots value c.args.numbers.now bits long, lt))
    (row-masked_slots value c.args.numbers.now bits long t c.index-numbers-i.result true lt c.index-numbers-i.is (sym (get_or-first (is_bit c.args.present) k t false lt ∙ here)))

pub loop-rest-preserved : goal.loop-rest-preserved
loop-rest-preserved g c =
    let value = g.T.Number.value in
    let k = length c.args.numbers.now in
    let rest = c.loop-rest.rest in
    let t = trailing_zeros w64 rest in
    let some : 0 < rest = omega (arith, c.loop-rest-test.true) in
    let here = c.loop-rest.invariant.0 t (lowest-set rest some (omega arith)) in
    let lt = within-length c.args.present k t c.requires.zeros (lowest-in rest some (omega arith)) here in (
      λ i set. c.loop-rest.invariant.0 i (still-set rest some (omega arith) i set),
      done-next (value c.args.span.now.least) c.args.span.now.count (number_slots value c.args.numbers.now) c.args.present k rest (bit_and rest (rest - 1)) t (value c.index-numbers-i.result) c.args.words.now c.loop-rest.words c.mark_number.new.words
          c.loop-rest.invariant.1 c.mark_number.ensures (length-slots value c.args.numbers.now) lt
          (row-slots value c.args.numbers.now t c.index-numbers-i.result lt c.index-numbers-i.is)
          here (cleared-here rest some (omega arith)) (cleared-others rest some (omega arith)),
    )

pub loop-rest-smaller : goal.loop-rest-smaller
loop-rest-smaller g c = less-left c.loop-rest.rest (omega (arith, c.loop-rest-test.true))

pub returns : goal.returns
returns g c =
    let value = g.T.Number.value in
    subst (λ (bits : List Bool). AreMarked (value c.args.span.now.least) c.args.span.now.count (masked bits (number_slots value c.args.numbers.now)) c.args.words.now c.loop-rest.words)
    (done-end (value c.args.span.now.least) c.args.span.now.count (number_slots value c.args.numbers.now) c.args.present (length c.args.numbers.now) c.loop-rest.rest (omega (arith, c.loop-rest-test.false)))
    c.loop-rest.invariant.1
