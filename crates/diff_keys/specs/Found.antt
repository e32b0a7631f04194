-- The partners of left rows, block by block.
use Rattle.std.specs.Prelude.{◌≡◌, ◌<◌, ◌≤◌, ◌+◌, ◌-◌, ℕ, List, Option, None, IfSome, get_or}
use Rattle.std.specs.Prelude.{length}
use Rattle.diff_keys.specs.Chains.{AreWaiting, class_of}
use Rattle.diff_keys.specs.Partners.{HasKey, Keys, key_at, number_of}
use Rattle.diff_keys.specs.Waiting.{nth}
use Rattle.diff_keys.specs.declared.waiting.Waiting.{Waiting}

-- there is an item for each number from start up to end, and P holds for both
pub record AreEach {A : Type 0} (P : ℕ → A → Type 0) (default : A) (start end : ℕ)
    (items : List A) : Type 0 where
  pub one_each : start + length items ≡ end
  pub each : (i : ℕ) → start ≤ i → i < end → P i (get_or items (i - start) default)

-- the classes of the keys of left rows from start up to end
abbrev pub AreClasses : Keys → ℕ → ℕ → ℕ → List ℕ → Type 0
AreClasses left count start end classes = AreEach
    (λ i class. class ≡ class_of count (key_at left i)) 0 start end classes

-- a right row or none for each number from start up to end
abbrev pub AreRows : Keys → ℕ → ℕ → List (Option ℕ) → Type 0
AreRows right start end rows = AreEach
    (λ i row. IfSome row (λ j. j < length right)) None start end rows

-- for each left row from start up to end a right row of its key, or none
abbrev pub AreGuesses : Keys → Keys → ℕ → ℕ → List (Option ℕ) → Type 0
AreGuesses left right start end rows = AreEach
    (λ i row. IfSome row (HasKey right (key_at left i))) None start end rows

-- the first i left rows have found their partners, and the other right rows wait
pub record HaveFound (left right : Keys) (i : ℕ) (w : Waiting) (found : List (Option ℕ)) :
    Type 0 where
  pub waiting : AreWaiting left right i w
  pub one_each : length found ≡ i
  pub told : (t : ℕ) → t < i → get_or found t None ≡ nth (key_at left t) (number_of left t) right
