-- The texts in the cells of a table: JSON within code spans, so that nothing of it is a mention, a
-- link, an emoji or HTML.
--
-- The string Oslo is `"Oslo"`, the member id with 7 is `id=7`, and the member "a b" with null is
-- `"a b"=null`.
use Rattle.std.specs.List.{list_all}
use Rattle.std.specs.Prelude.{ℕ, ◌==◌, Bool, not, ◌&&◌, nat_lt, if◌then◌else◌, List, [], ◌++◌}
use Rattle.std.specs.Prelude.{length, codes, Option, Some, None, option_and_then}
use Rattle.json.specs.Find.{as_object}
use Rattle.json.specs.Json.{Json, string, Members, no_members, member}
use Rattle.json.specs.Print.{print}
use Rattle.json.specs.Tree.{json_tokens}
use Rattle.diff_markdown.specs.Escapes.{safe}

-- a value as JSON with no blank
unfoldable pub value_text : Json → List ℕ
value_text j = safe (print (json_tokens j))

-- a byte above a space that is no quote, comma, equals sign, backslash, backquote, bar, 127 or 194,
-- with which U+0080 to U+00BF begin
abbrev pub is_word_byte : ℕ → Bool
is_word_byte b =
    nat_lt 32 b && not (b == 34) && not (b == 44) && not (b == 61) && not (b == 92) && not (b == 96)
    && not (b == 124) && not (b == 127) && not (b == 194)

-- bytes that may all stand in a word
abbrev pub is_word : List ℕ → Bool
is_word bytes = not (length bytes == 0) && list_all is_word_byte bytes

-- a name unchanged if it is a word, and otherwise as a JSON string
unfoldable pub name_text : List ℕ → List ℕ
name_text name = if is_word name then safe name else value_text (string name)

-- a name within a code span
abbrev pub name_cell : List ℕ → List ℕ
name_cell name = codes "`" ++ name_text name ++ codes "`"

-- a value within a code span
abbrev pub value_cell : Json → List ℕ
value_cell j = codes "`" ++ value_text j ++ codes "`"

-- the value of one side, if it has the part
abbrev pub side_cell : Option Json → List ℕ
side_cell None = codes "missing"
side_cell (Some j) = value_cell j

-- a member within a code span
unfoldable pub pair_cell : List ℕ → Json → List ℕ
pair_cell name j = codes "`" ++ name_text name ++ codes "=" ++ value_text j ++ codes "`"

-- members one after another, with commas between them, and something before the first
abbrev pub pairs_after : List ℕ → Members → List ℕ
pairs_after gap no_members = []
pairs_after gap (member name j rest) = gap ++ pair_cell name j ++ pairs_after (codes ", ") rest

-- the members that there are
abbrev pub pairs_in : Option Members → List ℕ
pairs_in None = []
pairs_in (Some ms) = pairs_after [] ms

-- the members of a part that is an object
unfoldable pub pairs_cell : Option Json → List ℕ
pairs_cell part = pairs_in (option_and_then as_object part)
