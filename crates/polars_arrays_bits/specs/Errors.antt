-- Errors of calls.
use Rattle.polars_arrays_bits.specs.declared.error.ComputeError.{ComputeError}
use Rattle.polars_arrays_bits.specs.declared.error.ComputeError.TheVariants.{Memory, Unsupported}
use Rattle.polars_arrays_bits.specs.declared.error.ComputeError.TheVariants.{KeyOutOfRange}

-- the error is a failed allocation
abbrev pub IsMemory : ComputeError → Type 0
IsMemory (Memory e) = Unit {0}
IsMemory Unsupported = ⊥
IsMemory (KeyOutOfRange key len) = ⊥
