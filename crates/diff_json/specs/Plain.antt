-- Lines: texts in which the one control character of ASCII is the line feed that ends them.
use Rattle.std.specs.Prelude.{◌≡◌, ℕ, false, List, [], ◌∷◌, ◌++◌, All}
use Rattle.diff_words.specs.Quoted.{is_control}

-- no byte is a control character of ASCII
abbrev pub IsPlain : List ℕ → Type 0
IsPlain text = All (λ b. is_control b ≡ false) text

-- the one control character of ASCII is a line feed, and comes last
abbrev pub IsLine : List ℕ → Type 0
IsLine line = (text : List ℕ) × (line ≡ text ++ 10 ∷ []) × IsPlain text
