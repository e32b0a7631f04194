-- Errors of reading a path.
use Rattle.std.specs.Prelude.{◌≡◌}
use Rattle.json_paths.specs.declared.error.PathError.{PathError}
use Rattle.json_paths.specs.declared.error.PathError.TheVariants.{Memory, Invalid}

-- an allocation failed
abbrev pub IsMemory : PathError → Type 0
IsMemory e = e ≡ Memory

-- the text is no path
abbrev pub IsInvalid : PathError → Type 0
IsInvalid e = e ≡ Invalid
