use Rattle.std.proofs.Common.{◌≡◌, ◌++◌, take}
use Rattle.std.specs.List.{flat_map}
use Rattle.schema_documents.specs.JsonLines.{path_line}
use Rattle.schema_documents.proofs.json_lines.push_paths.Given as goal

abbrev pub invariant-loop-path : goal.invariant-loop-path
invariant-loop-path l = l.out.items ≡ l.fn.out.items ++ flat_map (path_line l.skip_bad l.count) (take l.path-index l.paths)
