use Rattle.std.proofs.Common.{arith, ap, sym, ◌∙◌}
use Rattle.polars_arrays_bytes.specs.OffsetStrings.{place_at, row_count}
use Rattle.polars_arrays_bytes.proofs.WholeTexts.{ends_within, there}
use Rattle.arrow_parts.specs.Lent.{places_from}
use Rattle.arrow_equality.proofs.LentPlaces.{length-lent, lent-some, lent_ends, place-lent}
use Rattle.arrow_equality.proofs.part_strings.ends.Goals as goal

pub place_of-requires-2-after_bounds : goal.place_of-requires-2-after_bounds
place_of-requires-2-after_bounds g c κs within none =
    let all = places_from c.args.base g.O.Number.value c.args.offsets.now in
    let more = lent-some g.O.Number.value c.args.base _ c.args.offsets.now c.requires in
    there _ all c.requires (row_count c.args.offsets.now) (omega (arith, length-lent g.O.Number.value c.args.base c.args.offsets.now)) (ap (place_at all) (sym c.row_count.ensures) ∙ place-lent g.O.Number.value c.args.base c.args.offsets.now c.row_count.result _ c.index-offsets-row_count.is (omega (arith, more, c.row_count.ensures)) ∙ none)

pub returns-clause-to : goal.returns-clause-to
returns-clause-to g c =
    let all = places_from c.args.base g.O.Number.value c.args.offsets.now in
    let more = lent-some g.O.Number.value c.args.base _ c.args.offsets.now c.requires in
    ap (place_at all) (sym c.row_count.ensures) ∙ place-lent g.O.Number.value c.args.base c.args.offsets.now c.row_count.result _ c.index-offsets-row_count.is (omega (arith, more, c.row_count.ensures)) ∙ c.place_of-2.ensures

pub returns-clause-within : goal.returns-clause-within
returns-clause-within g c =
    let all = places_from c.args.base g.O.Number.value c.args.offsets.now in
    let more = lent-some g.O.Number.value c.args.base _ c.args.offsets.now c.requires in
    let start = place-lent g.O.Number.value c.args.base c.args.offsets.now 0 _ c.index-offsets-0.is (omega (arith, more)) ∙ c.place_of.ensures in
    let end = ap (place_at all) (sym c.row_count.ensures) ∙ place-lent g.O.Number.value c.args.base c.args.offsets.now c.row_count.result _ c.index-offsets-row_count.is (omega (arith, more, c.row_count.ensures)) ∙ c.place_of-2.ensures in
    ends_within _ all c.place_of.result c.place_of-2.result (lent_ends g.O.Number.value c.args.base c.args.offsets.now _ c.place_of.result c.place_of-2.result c.requires start end)
