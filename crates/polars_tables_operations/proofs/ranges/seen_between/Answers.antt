use Rattle.std.proofs.Common.{◌∙◌, sym, inr}
use Rattle.std.specs.Prelude.{Ok}
use Rattle.polars_arrays_flat.specs.ArrayRows.{number_rows}
use Rattle.polars_tables_operations.proofs.RangeStates.{state-inside, state-outside}
use Rattle.polars_tables_operations.proofs.ranges.seen_between.Goals as goal

pub returns-then-not-accepts : goal.returns-then-not-accepts
returns-then-not-accepts g c =
    let value = g.T.Number.value in
    let made = rw c.in_ok-state.ensures.answered at c.new.ensures.state in
    let ends = sym c.are_ends.ensures ∙ c.if-not-are_ends.false in
    inr (state-outside (value c.args.first) (value c.args.last) (number_rows value c.args.rows.now) (λ s. Ok s) ends _ made _ c.accepts.ensures c.if-not-accepts.true)

pub returns : goal.returns
returns g c =
    let value = g.T.Number.value in
    let made = rw c.in_ok-state.ensures.answered at c.new.ensures.state in
    let ends = sym c.are_ends.ensures ∙ c.if-not-are_ends.false in
    state-inside (value c.args.first) (value c.args.last) (number_rows value c.args.rows.now) (λ s. Ok s) ends _ made _ _ c.accepts.ensures c.if-not-accepts.false c.append.ensures.state
