-- The text of a kernel's result is the result for the rows.
use Rattle.std.proofs.Common.{◌≡◌, ℕ, List, inl, refl, subst}
use Rattle.std.specs.Prelude.{Result, Ok, Err, MatchResult}
use Rattle.polars_arrays_bits.specs.declared.error.ComputeError.{ComputeError}
use Rattle.polars_arrays_flat.specs.Row.{Row}
use Rattle.polars_tables_rows.specs.declared.fault.LineError.{LineError}
use Rattle.polars_tables_rows.specs.declared.fault.LineError.TheVariants.{Memory}
use Rattle.polars_tables_rows.specs.Faults.{Tells}
use Rattle.polars_tables_operations.specs.Answers.{told}

pub answered : {A S : Type 0} (read : S → List ℕ) (rows : A → List Row) (Refused : ComputeError → Type 0) (made : Result A ComputeError) (meant : List Row) (result : Result S LineError) → MatchResult made (λ a. rows a ≡ meant) Refused → MatchResult made (λ a. Tells read (told (rows a)) result) (λ e. result ≡ Err Memory) → Tells read (told meant) result
answered read rows Refused (Ok a) meant result is written = subst (λ r. Tells read (told r) result) is written
answered read rows Refused (Err e) meant result is written = rw written (inl refl)
