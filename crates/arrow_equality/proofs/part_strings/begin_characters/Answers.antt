use Rattle.std.proofs.Common.{◌∙◌, Bool, true, false, below_more, refl, subst, arith}
use Rattle.std.specs.Prelude.{◌&&◌, IsTrue}
use Rattle.polars_arrays_bytes.specs.OffsetStrings.{place_at}
use Rattle.polars_arrays_bytes.specs.Texts.{IsBegun}
use Rattle.polars_arrays_bytes.proofs.WholeTexts.{one_place}
use Rattle.arrow_parts.specs.Lent.{places_from}
use Rattle.arrow_equality.proofs.LentPlaces.{length-lent, place-lent, start-lent}
use Rattle.arrow_equality.proofs.part_strings.begin_characters.Goals as goal

pub place_of-requires-after_bounds : goal.place_of-requires-after_bounds
place_of-requires-after_bounds g c κs within =
    start-lent g.O.Number.value c.args.base _ c.args.offsets.now c.loop-row.row _ c.index-offsets-row.is (omega (arith, c.loop-row-test.true, c.row_count-row-end.ensures)) (c.requires.good.rows c.loop-row.row (omega (arith, c.loop-row-test.true, c.row_count-row-end.ensures, length-lent g.O.Number.value c.args.base c.args.offsets.now)))

-- two truths that are both so
both_left : (a b : Bool) → IsTrue (a && b) → IsTrue a
both_left true b both = refl
both_left false b both = cc

both_right : (a b : Bool) → IsTrue (a && b) → IsTrue b
both_right true b both = both
both_right false b both = cc

pub loop-row-preserved : goal.loop-row-preserved
loop-row-preserved g c both =
    let all = places_from c.args.base g.O.Number.value c.args.offsets.now in
    below_more _ _ (c.loop-row.invariant (both_left c.loop-row.begun _ both))
    (λ at is.
    subst (IsBegun c.args.bytes.now c.args.end) (one_place (place_at all c.loop-row.row) _ at (place-lent g.O.Number.value c.args.base c.args.offsets.now c.loop-row.row _ c.index-offsets-row.is (omega (arith, c.loop-row-test.true, c.row_count-row-end.ensures)) ∙ c.place_of.ensures) is) (c.begins_character-begun.ensures (both_right c.loop-row.begun _ both)))

pub returns : goal.returns
returns g c begun i below = c.loop-row.invariant begun i (omega (arith, below, c.loop-row-test.false, c.row_count-row-end.ensures, length-lent g.O.Number.value c.args.base c.args.offsets.now))
