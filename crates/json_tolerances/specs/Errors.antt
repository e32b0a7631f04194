-- The errors of reading a bound.
use Rattle.std.specs.Prelude.{ℕ, ◌^◌, ◌≤◌, List, IsTrue}
use Rattle.json.specs.Print.{IsNumber}
use Rattle.json_decimals.specs.Decimals.{is_negative, decimal_of}
use Rattle.json_decimals.specs.Texts.{HasWideExponent}
use Rattle.json_tolerances.specs.declared.error.BoundError.{BoundError}
use Rattle.json_tolerances.specs.declared.error.BoundError.TheVariants.{NotANumber, Negative}
use Rattle.json_tolerances.specs.declared.error.BoundError.TheVariants.{WideExponent, TooLong}

-- the meaning of each error for a text
abbrev pub IsFaultOf : List ℕ → BoundError → Type 0
IsFaultOf s NotANumber = ¬ IsNumber s
IsFaultOf s Negative = IsTrue (is_negative s)
IsFaultOf s WideExponent = HasWideExponent s
IsFaultOf s TooLong = 10 ^ 18 ≤ (decimal_of s).coefficient
