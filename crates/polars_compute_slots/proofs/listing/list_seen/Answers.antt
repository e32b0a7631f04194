use Rattle.std.proofs.Common.{◌≡◌, ◌∙◌, ◌++◌, List, [], ◌∷◌, Result, Ok, Err, ap, arith, false, subst, sym}
use Rattle.std.proofs.lemmas.Option.{get_or_from_slice_get}
use Rattle.std.specs.Result.{IsErrAnd, MatchResult}
use Rattle.polars_arrays_bits.specs.Errors.{IsMemory}
use Rattle.polars_arrays_bits.specs.declared.error.ComputeError.{ComputeError}
use Rattle.polars_arrays_flat.specs.Row.{Int, Null, Row}
use Rattle.polars_compute_slots.specs.Slots.{slot_state}
use Rattle.polars_compute_slots.proofs.Sets.{finalised-null, finalised-present}
use Rattle.polars_compute_slots.proofs.listing.list_seen.Goals as goal

-- what the exits of both `?` return
refused : {X : Type 0} (P : X → Type 0) (r : Result X ComputeError) → IsErrAnd r IsMemory → MatchResult r P IsMemory
refused P (Ok x) h = absurd h
refused P (Err e) h = h

passed : {X : Type 0} (P : X → Type 0) (r : Result X ComputeError) (e : ComputeError) → IsMemory e → IsErrAnd r (λ y. y ≡ e) → MatchResult r P IsMemory
passed P (Ok x) e memory h = absurd h
passed P (Err y) e memory h = subst IsMemory (sym h) memory

pub returns-else-is_set : goal.returns-else-is_set
returns-else-is_set g c =
    let slots = g.S.Slots.set_slots c.args.slots.now in
    c.from_vec.ensures.rows
    ∙ c.in_ok-numbers.ensures.numbers
    ∙ finalised-present Int (slot_state (g.T.Number.value c.args.span.now.least) c.args.span.now.count slots) (get_or_from_slice_get slots c.args.span.now.count c.is_set.result false c.is_set.ensures ∙ c.if-is_set.false)

pub list_numbers-requires : goal.list_numbers-requires
list_numbers-requires g c = (c.type_bounds.static-T, (c.requires.size, c.requires.numbers))

pub returns-in_err-numbers : goal.returns-in_err-numbers
returns-in_err-numbers g c = refused _ c.from_residual.result c.from_residual.ensures.1

pub is_set-requires : goal.is_set-requires
is_set-requires g c = omega (arith, c.requires.size)

pub with_null-requires : goal.with_null-requires
with_null-requires g c = (c.type_bounds.static-T, c.in_ok-numbers.ensures.room)

pub returns-in_err-array : goal.returns-in_err-array
returns-in_err-array g c = passed _ c.from_residual-in_err-array.result c.in_err-array.field-0.0 c.in_err-array.ensures c.from_residual-in_err-array.ensures.1

pub returns-in_ok-array : goal.returns-in_ok-array
returns-in_ok-array g c =
    let slots = g.S.Slots.set_slots c.args.slots.now in
    c.in_ok-array.ensures
    ∙ ap (λ (rows : List Row). rows ++ Null ∷ []) c.in_ok-numbers.ensures.numbers
    ∙ finalised-null Int (slot_state (g.T.Number.value c.args.span.now.least) c.args.span.now.count slots) (get_or_from_slice_get slots c.args.span.now.count c.is_set.result false c.is_set.ensures ∙ c.if-is_set.true)
