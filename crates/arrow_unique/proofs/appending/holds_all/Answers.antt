use Rattle.std.proofs.Common.{◌∙◌, ◌&&◌, ap, ap₂, sym, arith}
use Rattle.std.proofs.lemmas.List.{take_all}
use Rattle.std.proofs.lemmas.List.Folds.{list_all_more}
use Rattle.polars_arrays_flat.specs.Row.{Null}
use Rattle.polars_arrays_flat.specs.StoredRows.{number_slots}
use Rattle.polars_compute_slots.specs.State.{are_within, is_within, numbers_from}
use Rattle.polars_compute_slots.proofs.Ranges.{holds-within}
use Rattle.polars_compute_slots.proofs.RowPlaces.{length-slots, row-slots}
use Rattle.arrow_unique.proofs.appending.holds_all.Goals as goal

pub loop-i-preserved : goal.loop-i-preserved
loop-i-preserved g c =
    let value = g.T.Number.value in
    let least = value c.args.span.now.least in
    let n = c.args.span.now.count in
    let slots = number_slots value c.args.numbers.now in
    let long = length-slots value c.args.numbers.now in
    let m = value c.index-numbers-i.result in
    let is = row-slots value c.args.numbers.now c.loop-i.i c.index-numbers-i.result c.loop-i-test.true c.index-numbers-i.is in
    let bounds = c.last_number-last.ensures m c.lies_between-all.ensures.high in
    let between = c.lies_between-all.ensures.between in
    let held = holds-within least m n c.lies_between-all.result ((λ yes. bounds.1 (between.0 yes)), (λ slot. between.1 (bounds.0 slot))) in
    ap₂ ◌&&◌ c.loop-i.invariant (held ∙ sym (ap (is_within (numbers_from least n)) is))
    ∙ sym (list_all_more (is_within (numbers_from least n)) slots c.loop-i.i Null (omega (arith, long, c.loop-i-test.true)))

pub returns : goal.returns
returns g c =
    let value = g.T.Number.value in
    let slots = number_slots value c.args.numbers.now in
    let range = numbers_from (value c.args.span.now.least) c.args.span.now.count in
    let long = length-slots value c.args.numbers.now in
    c.loop-i.invariant ∙ ap (are_within range) (take_all c.loop-i.i slots (omega (arith, long, c.loop-i-test.false)))
