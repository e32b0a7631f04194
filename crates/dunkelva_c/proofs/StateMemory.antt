-- States of ranges.
use Rattle.std.proofs.Common.{◌≡◌, ◌<◌, ◌∙◌, ◌++◌, ℕ, Bool, true, false, cond, not, eqb, List, drop, length, map, refl, subst, arith}
use Rattle.std.specs.Prelude.{ℤ}
use Rattle.arrow_calls.specs.declared.fault.Fault.TheVariants.{Room}
use Rattle.arrow_calls.specs.declared.number.Number.{Number}
use Rattle.arrow_unique.specs.Memory.{low_word, state_in}
use Rattle.dunkelva_c.specs.States.{AreCounts, IsAppended, IsListed, IsTrueListFault, count_in, whole_in}
use Rattle.dunkelva_c.specs.declared.states.StateFault.TheVariants.{Of}
use Rattle.polars_arrays_flat.specs.Row.{Int, Row}
use Rattle.polars_compute_slots.specs.State.{finalised, set_of}
use mir.Val.{bool_byte}

-- equal rows are appended to a state of an equal range alike
pub appended-same : (m least : ℤ) (n : ℕ) (rows others : List Row) (old new : List ℕ) (flag after : ℕ) (within : Bool) → m ≡ least → rows ≡ others → IsAppended m n rows old new flag after within → IsAppended least n others old new flag after within
appended-same m least n rows others old new flag after within e f is =
    subst (λ (rs : List Row). IsAppended least n rs old new flag after within) f
    (subst (λ (k : ℤ). IsAppended k n rows old new flag after within) e is)

module _ (least greatest : Number) where
  -- ---- contents of states

  pub counted-state : (n : ℕ) (words : List ℕ) (flag values rows : ℕ) → n ≡ count_in least greatest → ((l : ℤ) (m : ℕ) → values ≡ length (set_of (state_in l n words m))) → ((l : ℤ) (put : ℤ → Row) → rows ≡ length (finalised put (state_in l n words flag))) → AreCounts least greatest words flag values rows
  counted-state n words flag values rows f is are =
      record {
        present = subst (λ (k : ℕ). values ≡ length (set_of (state_in (whole_in least) k words flag))) f (is (whole_in least) flag);
        all = subst (λ (k : ℕ). rows ≡ length (finalised Int (state_in (whole_in least) k words flag))) f (are (whole_in least) Int);
      }

  byte : (b : Bool) → bool_byte b ≡ cond b 1 0
  byte true = refl
  byte false = refl

  pub listed-state : {l : ℤ} (n : ℕ) (words : List ℕ) (flag : ℕ) (old new : List ℕ) (told : ℕ) → ((m : ℕ) → new ≡ map low_word (set_of (state_in l n words m)) ++ drop (length (set_of (state_in l n words m))) old) → l ≡ whole_in least → n ≡ count_in least greatest → told ≡ bool_byte (not (eqb flag 0)) → IsListed least greatest words flag old new told
  listed-state {l} n words flag old new told is e f null_is =
      record {
        values =
            subst (λ (k : ℕ). new ≡ map low_word (set_of (state_in (whole_in least) k words flag)) ++ drop (length (set_of (state_in (whole_in least) k words flag))) old) f
            (subst (λ (m : ℤ). new ≡ map low_word (set_of (state_in m n words flag)) ++ drop (length (set_of (state_in m n words flag))) old) e (is flag));
        null = null_is ∙ byte (not (eqb flag 0));
      }

  pub list-room : (n count : ℕ) (words : List ℕ) (room : ℕ) → n ≡ count_in least greatest → ((l : ℤ) (m : ℕ) → count ≡ length (set_of (state_in l n words m))) → room < count → IsTrueListFault least greatest words room (Of Room)
  list-room n count words room f is few both =
      let seen = subst (λ (k : ℕ). count ≡ length (set_of (state_in (whole_in least) k words 0))) f (is (whole_in least) 0) in
      omega (arith, seen, few, both.1)
