-- A line that is read part by part, as a reader has it at hand.
--
-- Of "ab", 10, "c" a reader may have "a" at hand: the line goes on, and "b", 10, "c" is left. Then
-- it may have all the rest: the line ends after "b", and "c" is left.
use Rattle.std.specs.Prelude.{◌≡◌, ◌≢◌, ℕ, List, [], ◌∷◌, ◌++◌, All, Option, Some}
use Rattle.document_rows.specs.declared.lines.Part.{Part}
use Rattle.document_rows.specs.declared.lines.Part.TheVariants as part

-- no line ends in a text
abbrev pub HasNoLineFeed : List ℕ → Type 0
HasNoLineFeed text = All (λ b. b ≢ 10) text

-- a read appends the part of a line that the reader has at hand, and leaves the rest
abbrev pub TakesPart : {R : Type 0} → (R → Option (List ℕ)) → List ℕ → List ℕ → List ℕ → R → Part
    → Type 0
TakesPart remaining rest before after reader part.Open = (text left : List ℕ)
    × (remaining reader ≡ Some left) × (rest ≡ text ++ left) × (after ≡ before ++ text)
    × HasNoLineFeed text
TakesPart remaining rest before after reader part.Ended = (text left : List ℕ)
    × (remaining reader ≡ Some left) × (rest ≡ text ++ 10 ∷ left) × (after ≡ before ++ text)
    × HasNoLineFeed text
TakesPart remaining rest before after reader part.Nothing = (remaining reader ≡ Some [])
    × (rest ≡ []) × (after ≡ before)
