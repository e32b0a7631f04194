-- The places where the digits of a number begin and end, without the zeros around them.
--
-- Of the digits 0 0 1 5 0, the first that counts stands at 2, and the zeros at the end begin at 4.
use Rattle.std.specs.Prelude.{◌≡◌, ◌≢◌, ℕ, ◌-◌, ◌<◌, ◌≤◌, List, length, slice_index}

-- only zeros stand before this place, and at it another digit or the end
pub record IsStart (ds : List ℕ) (n : ℕ) : Type 0 where
  pub within : n ≤ length ds
  pub zeros : (k : ℕ) → k < n → slice_index ds k ≡ 48
  pub digit : n < length ds → slice_index ds n ≢ 48

-- only zeros stand from this place on, and before it another digit or the beginning
pub record IsEnd (ds : List ℕ) (n : ℕ) : Type 0 where
  pub within : n ≤ length ds
  pub zeros : (k : ℕ) → n ≤ k → k < length ds → slice_index ds k ≡ 48
  pub digit : 0 < n → slice_index ds (n - 1) ≢ 48
