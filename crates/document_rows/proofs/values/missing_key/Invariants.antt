use Rattle.std.proofs.Common.{take}
use Rattle.json.specs.Value.{value_view}
use Rattle.json_paths.specs.Views.{paths_view}
use Rattle.document_rows.specs.Documents.{HasParts}
use Rattle.document_rows.proofs.values.missing_key.Given as goal

abbrev pub invariant-loop-key : goal.invariant-loop-key
invariant-loop-key l = HasParts (paths_view (take l.key l.keys)) (value_view l.value)
