use Rattle.std.proofs.Common.{◌∙◌, sym}
use Rattle.std.specs.Option.{option_copied}
use Rattle.polars_arrays_flat.specs.StoredRows.{number_slots}
use Rattle.polars_compute_slots.specs.State.{numbers_from}
use Rattle.arrow_unique.proofs.Within.{within-under}
use Rattle.arrow_unique.proofs.appending.accepts.Goals as goal

pub returns-then-holds_all : goal.returns-then-holds_all
returns-then-holds_all g c =
    let value = g.T.Number.value in
    let range = numbers_from (value c.args.span.now.least) c.args.span.now.count in
    let all = sym c.holds_all.ensures ∙ c.if-holds_all.true in
    c.if-holds_all.true ∙ sym (within-under range (option_copied c.args.validity) (number_slots value c.args.numbers.now) all)
