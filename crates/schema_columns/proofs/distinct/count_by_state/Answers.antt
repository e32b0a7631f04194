use mir.Syntax.{w64}
use mir.Val.{of_z, to_z}
use Rattle.std.proofs.Common.{◌∙◌, sym}
use Rattle.schema_columns.proofs.DistinctLemmas.{state_total}
use Rattle.schema_columns.proofs.distinct.count_by_state.Goals as goal

pub returns : goal.returns
returns c =
    c.finalize_n_unique_non_null.ensures
    ∙ state_total (to_z w64 (of_z w64 c.args.least)) (to_z w64 (of_z w64 c.args.greatest)) c.args.numbers.items _ c.in_ok-state.state c.append.new.self c.from_vec-array.ensures.rows
    c.in_ok-state.ensures.state (sym c.accepts.ensures ∙ c.if-not-accepts.false) c.append.ensures.state
