use Rattle.polars_arrays_bytes.specs.OffsetStrings.{offset_strings}
use Rattle.diff_run.proofs.ComparableLemmas.{tolerant}
use Rattle.diff_run.proofs.comparables.compared_by.Goals as goal

pub returns-in_ok-near-in-Some : goal.returns-in_ok-near-in-Some
returns-in_ok-near-in-Some c =
    tolerant c.args.options.now (offset_strings (λ x. x) c.args.names.now) c.args.keys.now c.args.both.now c.in_ok-tables-in-Some.tables c.in_ok-tables-in-Some.ensures
    c.in-Some.tolerances c.in_ok-near-in-Some.near c.in-Some.is c.in_ok-near-in-Some.ensures
