use Rattle.std.proofs.Common.{◌≤◌, length, arith, subst}
use Rattle.std.specs.Prelude.{IsSome}
use Rattle.json.specs.Value.{value_view}
use Rattle.json_paths.specs.Paths.{part_at}
use Rattle.json_paths.specs.Views.{path_view, paths_view}
use Rattle.document_rows.specs.Documents.{HasParts}
use Rattle.document_rows.proofs.RowLemmas.{all_cells_kept, mapped_some, one_part}
use Rattle.document_rows.proofs.values.missing_key.Goals as goal

pub loop-key-preserved : goal.loop-key-preserved
loop-key-preserved c =
    let ks = c.args.keys.now in
    let j = value_view c.args.value.now in
    let p = c.index-keys-key.result in
    let there : IsSome (part_at (path_view p) j) = subst IsSome c.part_of.ensures (mapped_some _ c.part_of.result c.if-is_none.ensures) in
    one_part ks j c.loop-key.key p c.loop-key-test.true c.index-keys-key.is there c.loop-key.invariant

pub returns-clause-parts : goal.returns-clause-parts
returns-clause-parts c = λ _.
    let end : length c.args.keys.now ≤ c.loop-key.key = omega arith in
    subst (λ ks. HasParts (paths_view ks) (value_view c.args.value.now)) (all_cells_kept c.args.keys.now c.loop-key.key end) c.loop-key.invariant
