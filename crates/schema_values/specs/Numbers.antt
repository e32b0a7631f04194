-- The number of different numbers that texts write, and the least and the greatest of them.
--
-- The texts 1.0, -2, 1e0 and 0.5 write three different numbers. The least is -2. The greatest is 1,
-- and its first text is 1.0.
use Rattle.std.specs.List.{All}
use Rattle.std.specs.Prelude.{◌≡◌, ◌<◌, ◌⊎◌, ℕ, Bool, true, false, not, ◌&&◌, List, [], length, map}
use Rattle.std.specs.Prelude.{get_or, Option, Some, MatchOption, ⊤}
use Rattle.diff_numbers.specs.Cells.{is_number}
use Rattle.diff_tables.specs.Strings.{AreStrings}
use Rattle.diff_tables.specs.declared.strings.Strings.{Strings}
use Rattle.json_decimals.specs.Decimals.{decimal_of}
use Rattle.json_decimals.specs.Texts.{HasWideExponent, normal_number}
use Rattle.json_decimals.specs.declared.error.NumberError.{NumberError}
use Rattle.json_decimals.specs.declared.error.NumberError.TheVariants.{Memory, WideExponent}
use Rattle.json_tolerances.specs.Order.{decimal_less}
use Rattle.schema_values.specs.Distinct.{distinct_total}
use Rattle.schema_values.specs.Told.{TellsNothing, Told}

-- the text is a number, as JSON writes numbers
abbrev pub IsNumber : List ℕ → Type 0
IsNumber text = is_number text ≡ true

-- a number whose exponent has at most 30 digits after its zeros
pub record IsNarrow (text : List ℕ) : Type 0 where
  pub number : is_number text ≡ true
  pub narrow : ¬ HasWideExponent text

-- the number that a text writes is less than that of another, exactly
abbrev pub number_less : List ℕ → List ℕ → Bool
number_less s t = decimal_less (decimal_of s) (decimal_of t)

-- two texts write one number: neither is less
abbrev pub same_number : List ℕ → List ℕ → Bool
same_number s t = not (number_less s t) && not (number_less t s)

-- a number is better than another one: greater for `better true`, and less for `better false`
abbrev pub better : Bool → List ℕ → List ℕ → Bool
better true s t = number_less t s
better false s t = number_less s t

-- the place of the first of n texts that no other one of them is better than
pub record IsBestPlace (beats : List ℕ → List ℕ → Bool) (texts : List (List ℕ)) (n place : ℕ) :
    Type 0 where
  pub within : place < n
  pub none_better : (k : ℕ) → k < n → beats (get_or texts k []) (get_or texts place []) ≡ false
  pub first : (k : ℕ) → k < place → beats (get_or texts place []) (get_or texts k []) ≡ true

-- the first of all texts that no other one is better than
pub record IsBestText (beats : List ℕ → List ℕ → Bool) (texts : List (List ℕ)) (text : List ℕ) :
    Type 0 where
  pub place : ℕ
  pub best : IsBestPlace beats texts (length texts) place
  pub is : text ≡ get_or texts place []

-- the first of all texts that no other one is better than, or None if there is no text
abbrev pub TellsBest : (List ℕ → List ℕ → Bool) → List (List ℕ) → Option (List ℕ) → Type 0
TellsBest beats texts best = MatchOption best (texts ≡ []) (IsBestText beats texts)

-- all numbers have narrow exponents, and t is their summary
pub record TellsDecimals (texts : List (List ℕ)) (t : Told) : Type 0 where
  pub narrow : All IsNarrow texts
  pub distinct : t.distinct ≡ Some (distinct_total same_number texts)
  pub least : TellsBest (better false) texts t.least
  pub greatest : TellsBest (better true) texts t.greatest

-- a number has a wide exponent
pub record HasWide (texts : List (List ℕ)) : Type 0 where
  pub place : ℕ
  pub within : place < length texts
  pub wide : HasWideExponent (get_or texts place [])

-- a number has a wide exponent, and each part of t is None
pub record TellsWide (texts : List (List ℕ)) (t : Told) : Type 0 where
  pub some : HasWide texts
  pub nothing : TellsNothing t

-- t is the summary of numbers, and is empty if one has a wide exponent
abbrev pub TellsNumbers : List (List ℕ) → Told → Type 0
TellsNumbers texts t = TellsDecimals texts t ⊎ TellsWide texts t

-- the normal texts of numbers, all with narrow exponents
pub record AreNormal (texts : List (List ℕ)) (made : Strings) : Type 0 where
  pub strings : AreStrings made (map normal_number texts)
  pub narrow : All IsNarrow texts

-- a reason why numbers have no normal texts is true: an exponent is wide, or an allocation failed
abbrev pub IsNumberFault : List (List ℕ) → NumberError → Type 0
IsNumberFault texts Memory = ⊤
IsNumberFault texts WideExponent = HasWide texts
