use Rattle.std.proofs.Common.{◌≡◌, ◌∙◌, ◌++◌, subst, arith, take}
use Rattle.std.proofs.lemmas.Grind.{common_steps}
use Rattle.std.proofs.lemmas.List.{take_all}
use Rattle.std.specs.List.{flat_map}
use Rattle.diff_tables.specs.Strings.{AreStrings}
use Rattle.schema_documents.specs.Grid.{header, row_of}
use Rattle.schema_documents.proofs.GridLemmas.{all_cut, all_many}
use Rattle.schema_documents.proofs.grid.grid_of.Goals as goal

pub loop-path-preserved : goal.loop-path-preserved
loop-path-preserved c =
    let before = header ++ flat_map row_of (take c.loop-path.path-index c.args.paths.now) in
    subst (λ l. AreStrings c.push_row.new.cells l) (grind (arith, common_steps)) (c.in_ok-push_row.ensures before c.loop-path.invariant)

pub new-requires-2 : goal.new-requires-2
new-requires-2 c =
    let all : take c.loop-path.path-index c.args.paths.now ≡ c.args.paths.now = take_all c.loop-path.path-index c.args.paths.now (omega arith) in
    (header ++ flat_map row_of c.args.paths.now, subst (λ l. AreStrings c.loop-path.cells (header ++ flat_map row_of l)) all c.loop-path.invariant, omega (arith, all_many c.args.paths.now))

pub returns-clause-rows : goal.returns-clause-rows
returns-clause-rows c =
    let all : take c.loop-path.path-index c.args.paths.now ≡ c.args.paths.now = take_all c.loop-path.path-index c.args.paths.now (omega arith) in
    c.in_ok-grid.ensures.1 (header ++ flat_map row_of c.args.paths.now) (subst (λ l. AreStrings c.loop-path.cells (header ++ flat_map row_of l)) all c.loop-path.invariant)
    ∙ all_cut c.args.paths.now
