use Rattle.std.proofs.Common.{◌≡◌, List, length}
use Rattle.json_groups.specs.Groups.{AreGroupsOf}
use Rattle.json_parts.specs.Parts.{Part}
use Rattle.schema_paths.specs.Kinds.{HasKinds}
use Rattle.schema_paths.proofs.PathLemmas.{AreFirst}
use Rattle.schema_paths.proofs.paths.schemas_of.Given as goal

abbrev pub invariant-loop-group : goal.invariant-loop-group
invariant-loop-group l = (parts : List (List Part)) → AreGroupsOf HasKinds parts l.fn.groups.items → l.documents ≡ length parts → AreFirst parts l.yielded l.schemas.items
