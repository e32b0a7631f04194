-- Right rows that wait for a partner, in chains: those whose keys are in one class, in rising
-- order.
--
-- Let the right keys be "a", "b", "a", with "a" and "b" in one class. Rows 1 and 2 wait once a left
-- row of the key "a" has found its partner. The head of the class is then row 1, and the next one
-- is row 2.
use Rattle.std.specs.Prelude.{◌≡◌, ◌<◌, ◌≤◌, ◌%◌, ℕ, suc, List, Option, Some, None, get_or, length}
use Rattle.std.specs.Prelude.{take}
use Rattle.diff_keys.specs.Hashes.{key_hash}
use Rattle.diff_keys.specs.Partners.{Keys, count_of, key_at, number_of}
use Rattle.diff_keys.specs.Waiting.{nth}
use Rattle.diff_keys.specs.declared.waiting.Waiting.{Waiting}

-- the class of a key, of this many
abbrev pub class_of : ℕ → List ℕ → ℕ
class_of count key = key_hash key % count

-- right row x waits once the first i left rows have found their partners: its key is that of no
-- more of these left rows than of right rows before it
abbrev pub Waits : Keys → Keys → ℕ → ℕ → Type 0
Waits left right i x = count_of (key_at right x) (take i left) ≤ number_of right x

-- j is the first number from p on and below n for which P holds
pub record IsFirstAt (P : ℕ → Type 0) (p n j : ℕ) : Type 0 where
  pub from : p ≤ j
  pub within : j < n
  pub holds : P j
  pub before : (x : ℕ) → p ≤ x → x < j → ¬ (P x)

-- the first number from p on and below n for which P holds, or that there is none
abbrev pub IsFirst : (ℕ → Type 0) → ℕ → ℕ → Option ℕ → Type 0
IsFirst P p n None = (x : ℕ) → p ≤ x → x < n → ¬ (P x)
IsFirst P p n (Some j) = IsFirstAt P p n j

-- P holds for row x, and its key is in class c
abbrev pub IsIn : Keys → ℕ → (ℕ → Type 0) → ℕ → ℕ → Type 0
IsIn keys count P c x = P x × (class_of count (key_at keys x) ≡ c)

-- the rows for which P holds are chained by their classes
pub record AreChained (keys : Keys) (P : ℕ → Type 0) (heads next : List (Option ℕ)) : Type 0 where
  pub some : 0 < length heads
  pub len : length next ≡ length keys
  pub first : (c : ℕ) → c < length heads
      → IsFirst (IsIn keys (length heads) P c) 0 (length keys) (get_or heads c None)
  pub later : (t : ℕ) → t < length keys → P t
      → IsFirst (IsIn keys (length heads) P (class_of (length heads) (key_at keys t))) (suc t)
      (length keys) (get_or next t None)

-- the right rows that wait once the first i left rows have found their partners are chained
abbrev pub AreWaiting : Keys → Keys → ℕ → Waiting → Type 0
AreWaiting left right i w = AreChained right (Waits left right i) w.heads.items w.next.items

-- left row i took its partner out of those that waited, or there was none
pub record HasTaken (left right : Keys) (i : ℕ) (row : Option ℕ) (w : Waiting) : Type 0 where
  pub partner : row ≡ nth (key_at left i) (number_of left i) right
  pub rest : AreWaiting left right (suc i) w
