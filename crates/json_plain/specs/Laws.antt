-- Laws of plain JSON texts.
use Rattle.std.specs.Prelude.{◌≡◌, ◌≤◌, ℕ, false, All, List, [], ◌∷◌, Some, ⊤}
use Rattle.json.specs.Json.{Json, document, max_depth}
use Rattle.json.specs.Print.{print}
use Rattle.json.specs.Tree.{HasNumbers, depth, json_tokens}
use Rattle.json_plain.specs.Plain.{is_high_control, plain_json}

-- a byte is no control character of ASCII
pub record IsShown (b : ℕ) : Type 0 where
  pub above : 32 ≤ b
  pub other : ¬ (b ≡ 127)

-- no two adjacent bytes are a control character from U+0080 to U+009F; `before` is the byte before
-- the first
abbrev pub HasNoHigh : ℕ → List ℕ → Type 0
HasNoHigh before [] = ⊤
HasNoHigh before (b ∷ bs) = (is_high_control before b ≡ false) × HasNoHigh b bs

-- a plain text has no control character from U+0080 to U+009F
abbrev pub HighOnesAreEscaped : Type 0
HighOnesAreEscaped = (text : List ℕ) → HasNoHigh 0 (plain_json text)

-- a plain text has no control character of ASCII, if the text has no byte below 32
abbrev pub LowOnesAreEscaped : Type 0
LowOnesAreEscaped = (text : List ℕ) → All (λ b. 32 ≤ b) text → All IsShown (plain_json text)

-- the plain text of a value that is printed without white space is JSON of the same value
abbrev pub ValuesAreKept : Type 0
ValuesAreKept = (j : Json) → HasNumbers j → depth j ≤ max_depth
    → document (plain_json (print (json_tokens j))) ≡ Some j
