use Rattle.std.proofs.Common.{◌∙◌, length, ap}
use Rattle.std.proofs.lemmas.List.FromFn.{length-map-range_with_len}
use Rattle.diff_report.specs.Counts.{count_at}
use Rattle.diff_report.specs.Sides.{naming_of}
use Rattle.diff_report.proofs.NamedLemmas.{rows_named}
use Rattle.diff_report.proofs.counts.count_by_column.Goals as goal

pub counts_of-requires-clause-rows : goal.counts_of-requires-clause-rows
counts_of-requires-clause-rows c = rows_named c.args.sides.now c.args.comparison.now c.requires.sides c.requires.comparison

pub returns-clause-as_many : goal.returns-clause-as_many
returns-clause-as_many c =
    ap length c.in_ok-counts.ensures
    ∙ length-map-range_with_len (count_at c.args.sides.now c.args.comparison.now.matching c.args.comparison.now.changed.items) 0 (length (naming_of c.args.sides.now).names)
