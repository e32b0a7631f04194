-- Results of a call that some kinds of array do not support.
use Rattle.std.specs.Prelude.{Bool, true, false, IsTrue, Result, MatchResult}
use Rattle.polars_arrays_bits.specs.declared.error.ComputeError.{ComputeError}
use Rattle.polars_arrays_bits.specs.declared.error.ComputeError.TheVariants.{Memory, Unsupported}
use Rattle.polars_arrays_bits.specs.declared.error.ComputeError.TheVariants.{KeyOutOfRange}
use Rattle.polars_arrays_bits.specs.Errors.{IsMemory}

-- the error is that the kind does not support the operation
abbrev pub IsUnsupported : ComputeError → Type 0
IsUnsupported (Memory e) = ⊥
IsUnsupported Unsupported = Unit {0}
IsUnsupported (KeyOutOfRange key len) = ⊥

-- the error of a call: Memory if the kind supports the call, otherwise Unsupported
abbrev pub Refusal : Bool → ComputeError → Type 0
Refusal true e = IsMemory e
Refusal false e = IsUnsupported e

-- if the kind supports the call, P holds of the result or the error is Memory; otherwise the error
-- is Unsupported
abbrev pub Answers : {A : Type 0} → Bool → Result A ComputeError → (A → Type 0) → Type 0
Answers has r P = MatchResult r (λ x. IsTrue has × P x) (Refusal has)
