-- Errors.
use Rattle.std.specs.Prelude.{◌≡◌}
use Rattle.json_decimals.specs.declared.error.NumberError.{NumberError}
use Rattle.json_decimals.specs.declared.error.NumberError.TheVariants.{Memory}

-- the error says that an allocation failed
abbrev pub IsMemory : NumberError → Type 0
IsMemory e = e ≡ Memory
