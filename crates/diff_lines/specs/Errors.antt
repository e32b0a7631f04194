-- Errors.
use Rattle.std.specs.Prelude.{◌≡◌}
use Rattle.diff_lines.specs.declared.error.LineError.{LineError}
use Rattle.diff_lines.specs.declared.error.LineError.TheVariants.{Memory}

-- the error says that an allocation failed
abbrev pub IsMemory : LineError → Type 0
IsMemory e = e ≡ Memory
