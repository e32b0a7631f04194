use Rattle.std.proofs.Common.{◌≡◌, ◌∙◌, List, sym, ap, ap₂, subst, arith}
use Rattle.std.specs.Option.{option_copied}
use Rattle.polars_arrays_flat.specs.ArrayRows.{number_rows}
use Rattle.polars_arrays_flat.specs.Row.{Row}
use Rattle.polars_arrays_flat.specs.StoredRows.{number_slots, rows_under}
use Rattle.polars_compute_slots.specs.State.{are_within, numbers_from}
use Rattle.polars_compute_slots.proofs.Ranges.{have-rows}
use Rattle.arrow_unique.specs.Memory.{AreMarked}
use Rattle.arrow_unique.proofs.Marked.{holds-none, holds-some}
use Rattle.arrow_unique.proofs.appending.append.Goals as goal

pub mark_rows-requires-clause-fit : goal.mark_rows-requires-clause-fit
mark_rows-requires-clause-fit g c κs within =
    let value = g.T.Number.value in
    let validity = option_copied c.validity-validity.result in
    let range = numbers_from (value c.args.span.now.least) c.args.span.now.count in
    have-rows value (value c.args.span.now.least) c.args.span.now.count validity c.values-2.result.now
    (ap (λ (xs : List _). are_within range (rows_under validity (number_slots value xs))) (c.values-2.ensures ∙ sym c.values.ensures) ∙ sym c.accepts.ensures ∙ c.if-not-accepts.false)

pub returns-then-null_count-gt0-clause-appended : goal.returns-then-null_count-gt0-clause-appended
returns-then-null_count-gt0-clause-appended g c done =
    let value = g.T.Number.value in
    let least = value c.args.span.now.least in
    let n = c.args.span.now.count in
    let rows = number_rows value c.args.column.now in
    let is : rows_under (option_copied c.validity-validity.result) (number_slots value c.values-2.result.now) ≡ rows = ap₂ (λ v xs. rows_under v (number_slots value xs)) c.validity-validity.ensures.validity c.values-2.ensures in
    let marked = subst (λ (rs : List Row). AreMarked least n rs c.args.words.now c.mark_rows.new.words) is c.mark_rows.ensures in
    holds-some least n rows c.args.words.now c.mark_rows.new.words c.args.flag.now c.null_count.result marked c.null_count.ensures (omega (arith, c.if-null_count-gt0.true))

pub returns-else-null_count-gt0-clause-appended : goal.returns-else-null_count-gt0-clause-appended
returns-else-null_count-gt0-clause-appended g c done =
    let value = g.T.Number.value in
    let least = value c.args.span.now.least in
    let n = c.args.span.now.count in
    let rows = number_rows value c.args.column.now in
    let is : rows_under (option_copied c.validity-validity.result) (number_slots value c.values-2.result.now) ≡ rows = ap₂ (λ v xs. rows_under v (number_slots value xs)) c.validity-validity.ensures.validity c.values-2.ensures in
    let marked = subst (λ (rs : List Row). AreMarked least n rs c.args.words.now c.mark_rows.new.words) is c.mark_rows.ensures in
    holds-none least n rows c.args.words.now c.mark_rows.new.words c.args.flag.now c.null_count.result marked c.null_count.ensures (λ some. omega (arith, some, c.if-null_count-gt0.false))
