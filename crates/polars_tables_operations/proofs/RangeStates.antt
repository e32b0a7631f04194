-- The state of a range, to which rows are appended.
use Rattle.std.proofs.Common.{◌≡◌, ◌∙◌, ◌&&◌, Bool, true, false, cond, List, [], ◌∷◌, map, refl, sym, ap}
use Rattle.std.specs.Prelude.{ℤ, Result, Ok, Err}
use Rattle.polars_arrays_flat.specs.Row.{Row}
use Rattle.polars_compute_slots.specs.State.{State, appended, are_within, new_state, numbers_between, range_of}
use Rattle.polars_tables_rows.specs.declared.fault.LineError.{LineError}
use Rattle.polars_tables_rows.specs.declared.fault.LineError.TheVariants.{Range}
use Rattle.polars_tables_rows.specs.Faults.{of_ends, of_two}
use Rattle.polars_tables_operations.specs.Distinct.{are_ends, of_state}
use Rattle.polars_tables_operations.proofs.Lists.{ends-from, ends-to, two-from, two-to}

range-new : (range : List ℤ) → range_of (new_state range) ≡ range
range-new [] = refl
range-new (v ∷ range) = ap (λ (vs : List ℤ). v ∷ vs) (range-new range)

module _ {B : Type 0} (first last : ℤ) (rows : List Row) (answer : State → Result B LineError) (ends : are_ends first last ≡ true) (s : State) (new : s ≡ new_state (numbers_between first last)) where
  within : (b : Bool) → b ≡ are_within (range_of s) rows → are_within (numbers_between first last) rows ≡ b
  within b told = ap (λ (range : List ℤ). are_within range rows) (sym (ap range_of new ∙ range-new (numbers_between first last))) ∙ sym told

  -- a row lies outside
  pub state-outside : (b : Bool) → b ≡ are_within (range_of s) rows → b ≡ false → of_state first last rows answer ≡ Err Range
  state-outside b told out = rw (ends, within b told ∙ out) refl

  -- all rows lie in the range
  pub state-inside : (b : Bool) (t : State) → b ≡ are_within (range_of s) rows → b ≡ true → t ≡ appended rows s → of_state first last rows answer ≡ answer t
  state-inside b t told inside is = rw (ends, within b told ∙ inside) (ap answer (sym (is ∙ ap (appended rows) new)))

-- what a state that is known leads to
module _ {B : Type 0} (first last : ℤ) (rows : List Row) (answer : State → Result B LineError) where
  by_test : (b : Bool) (s t : State) (r : Result State LineError) → r ≡ cond b (Ok s) (Err Range) → r ≡ Ok t → cond b (answer s) (Err Range) ≡ answer t
  by_test true s t r is e = let f = sym is ∙ e in let same : s ≡ t = cc in ap answer same
  by_test false s t r is e = absurd (let f = sym is ∙ e in cc)

  by_test-err : (b : Bool) (s : State) (fault : LineError) (r : Result State LineError) → r ≡ cond b (Ok s) (Err Range) → r ≡ Err fault → cond b (answer s) (Err Range) ≡ Err fault
  by_test-err true s fault r is e = absurd (let f = sym is ∙ e in cc)
  by_test-err false s fault r is e = let f = sym is ∙ e in let same : Range ≡ fault = cc in ap (λ (x : LineError). Err x) same

  abbrev here : Bool
  here = are_ends first last && are_within (numbers_between first last) rows

  abbrev now : State
  now = appended rows (new_state (numbers_between first last))

  pub state-ok : (t : State) → of_state {B = State} first last rows (λ s. Ok s) ≡ Ok t → of_state first last rows answer ≡ answer t
  state-ok t e = by_test here now t (of_state {B = State} first last rows (λ s. Ok s)) refl e

  pub state-err : (fault : LineError) → of_state {B = State} first last rows (λ s. Ok s) ≡ Err fault → of_state first last rows answer ≡ Err fault
  state-err fault e = by_test-err here now fault (of_state {B = State} first last rows (λ s. Ok s)) refl e

-- the same of two lists, of which the first has the ends
module _ {B : Type 0} (xs : List (List Row)) (answer : State → Result B LineError) where
  pub range-ok : (t : State) → of_two {B = State} xs (λ ends rows. of_ends ends (λ m n. of_state m n rows (λ s. Ok s))) ≡ Ok t → of_two xs (λ ends rows. of_ends ends (λ m n. of_state m n rows answer)) ≡ answer t
  range-ok t e =
      two-to xs (λ ends rows. of_ends ends (λ m n. of_state m n rows (λ s. Ok s))) (λ ends rows. of_ends ends (λ m n. of_state m n rows answer)) t (answer t)
      (λ ends rows. ends-to ends (λ m n. of_state m n rows (λ s. Ok s)) (λ m n. of_state m n rows answer) t (answer t) (λ m n h. state-ok m n rows answer t h))
      e

  pub range-err : (fault : LineError) → of_two {B = State} xs (λ ends rows. of_ends ends (λ m n. of_state m n rows (λ s. Ok s))) ≡ Err fault → of_two xs (λ ends rows. of_ends ends (λ m n. of_state m n rows answer)) ≡ Err fault
  range-err fault e =
      two-from xs (λ ends rows. of_ends ends (λ m n. of_state m n rows (λ s. Ok s))) (λ ends rows. of_ends ends (λ m n. of_state m n rows answer)) fault
      (λ ends rows. ends-from ends (λ m n. of_state m n rows (λ s. Ok s)) (λ m n. of_state m n rows answer) fault (λ m n h. state-err m n rows answer fault h))
      e
