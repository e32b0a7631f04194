-- The paths that Rust values stand for.
use Rattle.std.specs.Prelude.{List, map, string_bytes}
use Rattle.json_paths.specs.Paths as paths
use Rattle.json_paths.specs.declared.path.Path.{Path}
use Rattle.json_paths.specs.declared.path.Step.{Step}
use Rattle.json_paths.specs.declared.path.Step.TheVariants.{Name, Place}

-- the step that a value stands for
abbrev pub step_view : Step → paths.Step
step_view (Name text) = paths.name (string_bytes text)
step_view (Place i) = paths.place i

-- the path that a value stands for
abbrev pub path_view : Path → paths.Path
path_view path = map step_view path.steps.items

-- the paths that values stand for
abbrev pub paths_view : List Path → List paths.Path
paths_view paths = map path_view paths
