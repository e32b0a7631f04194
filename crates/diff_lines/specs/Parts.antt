-- The parts of a line of a report.
use Rattle.std.specs.Prelude.{ℕ, List, [], option_and_then, unwrap_or}
use Rattle.json.specs.Find.{as_number, as_str, get}
use Rattle.json.specs.Json.{Json}

-- the text of a member that is a number, or an empty text
unfoldable pub number_at : List ℕ → Json → List ℕ
number_at name j = unwrap_or (option_and_then as_number (get name j)) []

-- the text of a member that is a string, or an empty text
unfoldable pub string_at : List ℕ → Json → List ℕ
string_at name j = unwrap_or (option_and_then as_str (get name j)) []
