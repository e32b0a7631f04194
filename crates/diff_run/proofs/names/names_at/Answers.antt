use Rattle.std.proofs.Common.{◌≡◌, ◌∙◌, ap, arith, take}
use Rattle.std.proofs.lemmas.List.{take_all}
use Rattle.polars_arrays_bytes.specs.OffsetStrings.{offset_strings}
use Rattle.diff_run.proofs.names.names_at.Goals as goal
use Rattle.diff_tables.specs.Keys.{cells_at}

pub returns : goal.returns
returns c =
    let all : take c.loop-column.column-index c.args.columns.now ≡ c.args.columns.now = take_all c.loop-column.column-index c.args.columns.now (omega arith) in
    c.in_ok-array.ensures.1 (cells_at (take c.loop-column.column-index c.args.columns.now) (offset_strings (λ x. x) c.args.names.now)) c.loop-column.invariant
    ∙ ap (λ columns. cells_at columns (offset_strings (λ x. x) c.args.names.now)) all
