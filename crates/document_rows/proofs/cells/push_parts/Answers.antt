use Rattle.std.proofs.Common.{◌<◌, ◌≤◌, ◌++◌, length, arith, refl, subst}
use Rattle.std.proofs.lemmas.List.{append-nil}
use Rattle.diff_tables.specs.Strings.{AreStrings}
use Rattle.json.specs.Value.{value_view}
use Rattle.json_paths.specs.Paths.{part_at}
use Rattle.json_paths.specs.Views.{path_view, paths_view}
use Rattle.document_rows.specs.Documents.{cell_of, key_cells}
use Rattle.document_rows.proofs.RowLemmas.{all_cells_kept, one_cell}
use Rattle.document_rows.proofs.cells.push_parts.Goals as goal

pub loop-key-init : goal.loop-key-init
loop-key-init c = λ all old. rw append-nil old

pub loop-key-preserved : goal.loop-key-preserved
loop-key-preserved c = λ all old.
    let ks = c.args.keys.now in
    let j = value_view c.args.value.now in
    let k = c.loop-key.key in
    let p = c.index-keys-key.result in
    let within : k < length ks = omega arith in
    subst (AreStrings c.push_part.new.cells) (one_cell ks j k p (cell_of (part_at (path_view p) j)) within c.index-keys-key.is refl all)
    (c.in_ok-push_part.ensures _ (c.loop-key.invariant all old))

pub returns : goal.returns
returns c = λ all old.
    let end : length c.args.keys.now ≤ c.loop-key.key = omega arith in
    subst (λ ks. AreStrings c.loop-key.cells (all ++ key_cells (paths_view ks) (value_view c.args.value.now))) (all_cells_kept c.args.keys.now c.loop-key.key end) (c.loop-key.invariant all old)
