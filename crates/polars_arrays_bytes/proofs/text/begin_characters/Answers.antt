use Rattle.std.proofs.Common.{◌∙◌, Bool, true, false, below_more, refl, subst, arith}
use Rattle.std.specs.Prelude.{◌&&◌, IsTrue}
use Rattle.polars_arrays_bytes.specs.OffsetStrings.{place_at, places}
use Rattle.polars_arrays_bytes.specs.Texts.{IsBegun}
use Rattle.polars_arrays_bytes.proofs.OffsetWindows.{length-places, place_read, start_read}
use Rattle.polars_arrays_bytes.proofs.WholeTexts.{one_place}
use Rattle.polars_arrays_bytes.proofs.text.begin_characters.Goals as goal

pub place-requires-after_bounds : goal.place-requires-after_bounds
place-requires-after_bounds g c κs within =
    start_read g.O.Number.value _ c.args.offsets.now c.loop-row.row _ c.index-offsets-row.is (omega (arith, c.loop-row-test.true, c.row_count-row-end.ensures)) (c.requires.good.rows c.loop-row.row (omega (arith, c.loop-row-test.true, c.row_count-row-end.ensures, length-places g.O.Number.value c.args.offsets.now)))

-- two truths that are both so
both_left : (a b : Bool) → IsTrue (a && b) → IsTrue a
both_left true b both = refl
both_left false b both = cc

both_right : (a b : Bool) → IsTrue (a && b) → IsTrue b
both_right true b both = both
both_right false b both = cc

pub loop-row-preserved : goal.loop-row-preserved
loop-row-preserved g c both =
    let all = places g.O.Number.value c.args.offsets.now in
    below_more _ _ (c.loop-row.invariant (both_left c.loop-row.begun _ both))
    (λ at is.
    subst (IsBegun c.args.values.now c.args.end) (one_place (place_at all c.loop-row.row) _ at (place_read g.O.Number.value c.args.offsets.now c.loop-row.row _ c.index-offsets-row.is (omega (arith, c.loop-row-test.true, c.row_count-row-end.ensures)) ∙ c.place.ensures) is) (c.begins_character-begun.ensures (both_right c.loop-row.begun _ both)))
