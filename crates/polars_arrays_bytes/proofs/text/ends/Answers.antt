use Rattle.std.proofs.Common.{arith, ap, sym, ◌∙◌}
use Rattle.polars_arrays_bytes.specs.OffsetStrings.{places, place_at, row_count}
use Rattle.polars_arrays_bytes.proofs.OffsetWindows.{length-places, one_more, place_read}
use Rattle.polars_arrays_bytes.proofs.WholeTexts.{ends_within, offset_ends, there}
use Rattle.polars_arrays_bytes.proofs.text.ends.Goals as goal

pub place-requires-2-after_bounds : goal.place-requires-2-after_bounds
place-requires-2-after_bounds g c κs within none =
    let all = places g.O.Number.value c.args.offsets.now in
    let more = one_more g.O.Number.value _ 0 (row_count c.args.offsets.now) c.args.offsets.now c.requires (omega arith) in
    there _ all c.requires (row_count c.args.offsets.now) (omega (arith, length-places g.O.Number.value c.args.offsets.now)) (ap (place_at all) (sym c.row_count.ensures) ∙ place_read g.O.Number.value c.args.offsets.now c.row_count.result _ c.index-offsets-row_count.is (omega (arith, more, c.row_count.ensures)) ∙ none)

pub returns-clause-within : goal.returns-clause-within
returns-clause-within g c =
    let all = places g.O.Number.value c.args.offsets.now in
    let more = one_more g.O.Number.value _ 0 (row_count c.args.offsets.now) c.args.offsets.now c.requires (omega arith) in
    let start = place_read g.O.Number.value c.args.offsets.now 0 _ c.index-offsets-0.is (omega (arith, more)) ∙ c.place.ensures in
    let end = ap (place_at all) (sym c.row_count.ensures) ∙ place_read g.O.Number.value c.args.offsets.now c.row_count.result _ c.index-offsets-row_count.is (omega (arith, more, c.row_count.ensures)) ∙ c.place-2.ensures in
    ends_within _ all c.place.result c.place-2.result (offset_ends g.O.Number.value c.args.offsets.now _ c.place.result c.place-2.result c.requires start end)
