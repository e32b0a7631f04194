use Rattle.std.proofs.Common.{◌≡◌, map, take}
use Rattle.json.specs.Value.{value_view}
use Rattle.json_paths.specs.Views.{paths_view}
use Rattle.document_rows.specs.Documents.{key_cells}
use Rattle.document_rows.proofs.parts.key_texts.Given as goal

abbrev pub invariant-loop-key : goal.invariant-loop-key
invariant-loop-key l = map (λ v. v.items) l.texts.items ≡ key_cells (paths_view (take l.key l.keys)) (value_view l.value)
