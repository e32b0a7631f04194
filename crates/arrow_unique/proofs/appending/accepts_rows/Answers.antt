use Rattle.std.proofs.Common.{◌∙◌, ◌&&◌, Bool, ap, ap₂, sym, arith}
use Rattle.std.specs.Option.{option_copied}
use Rattle.std.proofs.lemmas.List.{take_all}
use Rattle.std.proofs.lemmas.List.Folds.{list_all_at, list_all_more}
use Rattle.polars_arrays_flat.specs.Row.{Int, Null}
use Rattle.polars_arrays_flat.specs.StoredRows.{kept, number_slots, rows_under}
use Rattle.polars_compute_slots.specs.State.{are_within, is_within, numbers_from}
use Rattle.polars_compute_slots.proofs.Ranges.{length-rows-under, row-under}
use Rattle.arrow_unique.proofs.appending.accepts_rows.Goals as goal

pub returns-then-not-accepts_row : goal.returns-then-not-accepts_row
returns-then-not-accepts_row g c =
    let value = g.T.Number.value in
    let validity = option_copied c.args.validity in
    let rows = rows_under validity (number_slots value c.args.numbers.now) in
    let range = numbers_from (value c.args.span.now.least) c.args.span.now.count in
    let long = length-rows-under value validity c.args.numbers.now c.requires in
    let is = row-under value validity c.args.numbers.now c.loop-i.i c.index-numbers-i.result c.requires c.loop-i-test.true c.index-numbers-i.is in
    sym (list_all_at (is_within range) rows c.loop-i.i Null (omega (arith, long, c.loop-i-test.true)) (ap (is_within range) is ∙ ap (λ (b : Bool). is_within range (kept b (Int (value c.index-numbers-i.result)))) (sym c.is_present.ensures) ∙ sym c.accepts_row.ensures ∙ c.if-not-accepts_row.true))

pub loop-i-preserved : goal.loop-i-preserved
loop-i-preserved g c =
    let value = g.T.Number.value in
    let validity = option_copied c.args.validity in
    let rows = rows_under validity (number_slots value c.args.numbers.now) in
    let range = numbers_from (value c.args.span.now.least) c.args.span.now.count in
    let long = length-rows-under value validity c.args.numbers.now c.requires in
    let is = row-under value validity c.args.numbers.now c.loop-i.i c.index-numbers-i.result c.requires c.loop-i-test.true c.index-numbers-i.is in
    list_all_more (is_within range) rows c.loop-i.i Null (omega (arith, long, c.loop-i-test.true))
    ∙ ap₂ ◌&&◌ c.loop-i.invariant (ap (is_within range) is ∙ ap (λ (b : Bool). is_within range (kept b (Int (value c.index-numbers-i.result)))) (sym c.is_present.ensures) ∙ sym c.accepts_row.ensures ∙ c.if-not-accepts_row.false)

pub returns : goal.returns
returns g c =
    let value = g.T.Number.value in
    let validity = option_copied c.args.validity in
    let rows = rows_under validity (number_slots value c.args.numbers.now) in
    let range = numbers_from (value c.args.span.now.least) c.args.span.now.count in
    let long = length-rows-under value validity c.args.numbers.now c.requires in
    sym c.loop-i.invariant ∙ ap (are_within range) (take_all c.loop-i.i rows (omega (arith, long, c.loop-i-test.false)))
