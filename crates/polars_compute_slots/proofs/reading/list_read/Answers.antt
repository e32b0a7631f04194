use Rattle.std.proofs.Common.{◌∙◌, ap, sym}
use Rattle.std.proofs.lemmas.Result.{MatchResult-weaker}
use Rattle.polars_arrays_flat.specs.Row.{Int}
use Rattle.polars_compute_slots.specs.Slots.{slot_state}
use Rattle.polars_compute_slots.specs.State.{finalised}
use Rattle.polars_compute_slots.proofs.ReadValues.{read-whole}
use Rattle.polars_compute_slots.proofs.reading.list_read.Goals as goal

pub returns-then-not-may_be_null : goal.returns-then-not-may_be_null
returns-then-not-may_be_null g c =
    let state = slot_state (g.T.Number.value c.args.span.now.least) c.args.span.now.count (g.S.Slots.set_slots c.args.slots.now) in
    let whole = read-whole (g.N.NullValues.is_null c.args.nulls.now) (c.may_be_null.ensures c.if-not-may_be_null.true) state in
    MatchResult-weaker c.list_seen.result c.list_seen.ensures (λ array is. is ∙ ap (finalised Int) (sym whole)) (λ error m. m)
