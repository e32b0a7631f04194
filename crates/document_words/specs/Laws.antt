-- Laws of the numbers of keys.
use Rattle.std.specs.Prelude.{◌≡◌, ◌↔◌, ℕ, List}
use Rattle.json_decimals.specs.Decimals.{AreEqual, decimal_of}
use Rattle.json_decimals.specs.Texts.{normal_number}
use Rattle.document_words.specs.Numbers.{value_text}

-- the printed text of a number writes this number
abbrev pub KeyTextReadsBack : Type 0
KeyTextReadsBack = (s : List ℕ)
    → AreEqual (decimal_of (value_text (normal_number s))) (decimal_of s)

-- two texts write equal decimals if and only if their printed texts are the same
abbrev pub KeyTextsTell : Type 0
KeyTextsTell = (s t : List ℕ) → AreEqual (decimal_of s) (decimal_of t)
    ↔ (value_text (normal_number s) ≡ value_text (normal_number t))
