-- Keys that come twice.
--
-- Of the keys "a", "b", "b", "a" row 2 is the first one whose key an earlier row has: row 1.
use Rattle.std.specs.Prelude.{◌≡◌, ◌<◌, ℕ, Option, Some, None, length}
use Rattle.diff_keys.specs.Partners.{Keys, key_at}
use Rattle.diff_keys.specs.declared.unique.Twice.{Twice}

-- no two of the first n rows have one key
abbrev pub NoneTwice : Keys → ℕ → Type 0
NoneTwice keys n = (i j : ℕ) → i < j → j < n → ¬ (key_at keys i ≡ key_at keys j)

-- no key comes twice
abbrev pub AllDiffer : Keys → Type 0
AllDiffer keys = NoneTwice keys (length keys)

-- two rows have one key, and no two rows before the later one do
pub record IsFirstTwice (keys : Keys) (t : Twice) : Type 0 where
  pub in_order : t.first < t.again
  pub within : t.again < length keys
  pub one_key : key_at keys t.first ≡ key_at keys t.again
  pub none_before : NoneTwice keys t.again

-- these are the first two rows that have one key, or there are none
abbrev pub TellsFirstTwice : Keys → Option Twice → Type 0
TellsFirstTwice keys None = AllDiffer keys
TellsFirstTwice keys (Some t) = IsFirstTwice keys t
