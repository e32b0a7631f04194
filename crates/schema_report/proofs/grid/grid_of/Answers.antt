use Rattle.std.proofs.Common.{◌≡◌, ◌∙◌, ◌++◌, subst, arith, take}
use Rattle.std.proofs.lemmas.Grind.{common_steps}
use Rattle.std.proofs.lemmas.List.{take_all}
use Rattle.std.specs.List.{flat_map}
use Rattle.diff_tables.specs.Strings.{AreStrings}
use Rattle.schema_report.specs.Grid.{header, row_of}
use Rattle.schema_report.proofs.GridLemmas.{all_cut, all_many}
use Rattle.schema_report.proofs.grid.grid_of.Goals as goal

pub loop-column-preserved : goal.loop-column-preserved
loop-column-preserved c =
    let before = header ++ flat_map row_of (take c.loop-column.column-index c.args.columns.now) in
    subst (λ l. AreStrings c.push_row.new.cells l) (grind (arith, common_steps)) (c.in_ok-push_row.ensures before c.loop-column.invariant)

pub new-requires-2 : goal.new-requires-2
new-requires-2 c =
    let all : take c.loop-column.column-index c.args.columns.now ≡ c.args.columns.now = take_all c.loop-column.column-index c.args.columns.now (omega arith) in
    (header ++ flat_map row_of c.args.columns.now, subst (λ l. AreStrings c.loop-column.cells (header ++ flat_map row_of l)) all c.loop-column.invariant, omega (arith, all_many c.args.columns.now))

pub returns-clause-rows : goal.returns-clause-rows
returns-clause-rows c =
    let all : take c.loop-column.column-index c.args.columns.now ≡ c.args.columns.now = take_all c.loop-column.column-index c.args.columns.now (omega arith) in
    c.in_ok-grid.ensures.1 (header ++ flat_map row_of c.args.columns.now) (subst (λ l. AreStrings c.loop-column.cells (header ++ flat_map row_of l)) all c.loop-column.invariant)
    ∙ all_cut c.args.columns.now
