-- Laws of reports as Markdown.
use Rattle.std.specs.Prelude.{◌≡◌, ◌≤◌, ◌==◌, ℕ, false, All, List, Some}
use Rattle.json.specs.Json.{Json, document, max_depth}
use Rattle.json.specs.Tree.{HasNumbers, depth}
use Rattle.diff_markdown.specs.Cells.{value_text}
use Rattle.diff_markdown.specs.Escapes.{safe}

-- a byte ends no code span and no cell
pub record IsInside (b : ℕ) : Type 0 where
  pub no_backquote : (b == 96) ≡ false
  pub no_bar : (b == 124) ≡ false

-- the text written for a value, a name or a number stays within its code span and its cell
abbrev pub TextsStayInside : Type 0
TextsStayInside = (text : List ℕ) → All IsInside (safe text)

-- the text written for a value is JSON of the same value
abbrev pub ValuesAreKept : Type 0
ValuesAreKept = (j : Json) → HasNumbers j → depth j ≤ max_depth → document (value_text j) ≡ Some j
