-- Texts that end within quotes, and what shows it.
--
-- The text `a,"b` ends within quotes, and `a,"b"` does not. With a mark of a line feed and a quote
-- after them the last record of the first is a and b with the line feed, and that of the second is
-- one empty field.
use Rattle.std.specs.Prelude.{ℕ, Bool, true, false, List, [], ◌∷◌}
use Rattle.csv.specs.Machine.{step}
use Rattle.csv.specs.Reading.{strip_bom}
use Rattle.csv.specs.declared.parser.Config.{Config}
use Rattle.csv.specs.declared.parser.State.{State}
use Rattle.csv.specs.declared.parser.State.TheVariants as st
use Rattle.diff_csv.specs.Options.{config_of}
use Rattle.diff_csv.specs.declared.options.CsvOptions.{CsvOptions}

-- the state of the reader of records after some bytes
unfoldable pub state_after : Config → State → List ℕ → State
state_after cfg s [] = s
state_after cfg s (c ∷ rest) = state_after cfg (step cfg s c).0 rest

-- `true` if a state is within quotes. There are no escapes.
abbrev pub is_quoted : State → Bool
is_quoted st.StartRecord = false
is_quoted st.StartField = false
is_quoted st.InField = false
is_quoted st.InQuoted = true
is_quoted st.AfterQuote = false
is_quoted st.InEscape = false
is_quoted st.InComment = false
is_quoted st.AfterCr = false

-- `true` if the text ends within quotes
abbrev pub ends_open : CsvOptions → List ℕ → Bool
ends_open options text = is_quoted (state_after (config_of options) st.StartRecord (strip_bom text))

-- the mark that is read after a text: a line feed and a quote
abbrev pub mark : List ℕ
mark = 10 ∷ 34 ∷ []

-- the record that the mark makes, unless the text ends within quotes: one empty field
abbrev pub mark_fields : List (List ℕ)
mark_fields = [] ∷ []
