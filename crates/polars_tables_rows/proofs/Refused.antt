-- The result of the exit of a `?` on a failed allocation.
use Rattle.std.proofs.Common.{◌≡◌, ◌∙◌, inl, Result, Ok, Err}
use Rattle.std.specs.Prelude.{IfErr}
use Rattle.std.specs.Result.{IsErrAnd}
use Rattle.polars_tables_rows.specs.declared.fault.LineError.{LineError}
use Rattle.polars_tables_rows.specs.declared.fault.LineError.TheVariants.{Memory}
use Rattle.polars_tables_rows.specs.Faults.{UnlessMemory}

-- a failed allocation is never another fault
pub UnlessMemory-refused : {X : Type 0} (r : Result X LineError) (Other : LineError → Type 0) → IsErrAnd r (λ e. e ≡ Memory) → IfErr r (λ e. UnlessMemory e (Other e))
UnlessMemory-refused (Ok x) Other h = absurd h
UnlessMemory-refused (Err e) Other h = inl h

-- the same where the fault is passed on
pub UnlessMemory-passed : {X : Type 0} (r : Result X LineError) (Other : LineError → Type 0) (fault : LineError) → fault ≡ Memory → IsErrAnd r (λ e. e ≡ fault) → IfErr r (λ e. UnlessMemory e (Other e))
UnlessMemory-passed (Ok x) Other fault e h = absurd h
UnlessMemory-passed (Err y) Other fault e h = inl (h ∙ e)
